-- All actors have ended, or one that runs is at a least place.
use Rattle.sig_schedule_laws.proofs.Common.{◌≡◌, ◌⊎◌, inl, inr, ℕ, zero, suc, Bool, true, false, List, [], ◌∷◌, refl, ap, sym, subst, ◌∙◌, arith, None, Some, slice_get, Place, Actor, both_ways}
use Rattle.sig_schedule_laws.proofs.Words.{NotAfter, not_after_onward, total_places}

abbrev pub AllEnded : List Actor → Type 0
AllEnded xs = (m : ℕ) (b : Actor) → slice_get xs m ≡ Some b → b.ended ≡ true

pub record IsLeast (place : ℕ → Actor → Place) (xs : List Actor) : Type 0 where
  pub k : ℕ
  pub actor : Actor
  pub at : slice_get xs k ≡ Some actor
  pub runs : actor.ended ≡ false
  pub least : (m : ℕ) (b : Actor) → slice_get xs m ≡ Some b → b.ended ≡ false → NotAfter (place k actor) (place m b)

same_first : (x b : Actor) (xs : List Actor) → slice_get (x ∷ xs) 0 ≡ Some b → x ≡ b
same_first x b xs at = let e : Some x ≡ Some b = at in cc

module _ (place : ℕ → Actor → Place) (x : Actor) (xs : List Actor) where
  abbrev later : ℕ → Actor → Place
  later m = place (suc m)

  self : NotAfter (place 0 x) (place 0 x)
  self = inr (refl, omega arith)

  first_least : x.ended ≡ false → ((m : ℕ) (b : Actor) → slice_get xs m ≡ Some b → b.ended ≡ false → NotAfter (place 0 x) (later m b)) → IsLeast place (x ∷ xs)
  first_least runs rest = record { k = 0; actor = x; at = refl; runs = runs; least = each } where
    each : (m : ℕ) (b : Actor) → slice_get (x ∷ xs) m ≡ Some b → b.ended ≡ false → NotAfter (place 0 x) (place m b)
    each zero b at going = subst (λ (a : Actor). NotAfter (place 0 x) (place 0 a)) (same_first x b xs at) self
    each (suc m) b at going = rest m b at going

  later_least : (l : IsLeast later xs) → (x.ended ≡ false → NotAfter (later l.k l.actor) (place 0 x)) → IsLeast place (x ∷ xs)
  later_least l first = record { k = suc l.k; actor = l.actor; at = l.at; runs = l.runs; least = each } where
    each : (m : ℕ) (b : Actor) → slice_get (x ∷ xs) m ≡ Some b → b.ended ≡ false → NotAfter (place (suc l.k) l.actor) (place m b)
    each zero b at going =
        let same = same_first x b xs at in
        subst (λ (a : Actor). NotAfter (place (suc l.k) l.actor) (place 0 a)) same (first (ap (λ (a : Actor). a.ended) same ∙ going))
    each (suc m) b at going = l.least m b at going

  join : (b : Bool) → x.ended ≡ b → AllEnded xs ⊎ IsLeast later xs → AllEnded (x ∷ xs) ⊎ IsLeast place (x ∷ xs)
  join true ended (inl all) = inl each where
    each : (m : ℕ) (b : Actor) → slice_get (x ∷ xs) m ≡ Some b → b.ended ≡ true
    each zero b at = ap (λ (a : Actor). a.ended) (sym (same_first x b xs at)) ∙ ended
    each (suc m) b at = all m b at
  join true ended (inr l) = inr (later_least l (λ going. absurd (both_ways x.ended ended going)))
  join false runs (inl all) = inr (first_least runs (λ m b at going. absurd (both_ways b.ended (all m b at) going)))
  join false runs (inr l) = elim (total_places (place 0 x) (later l.k l.actor)) [
    | inl le ↦ inr (first_least runs (λ m b at going. not_after_onward (place 0 x) (later l.k l.actor) (later m b) le (l.least m b at going)))
    | inr ge ↦ inr (later_least l (λ going. ge))
  ]

pub some_least : (place : ℕ → Actor → Place) (xs : List Actor) → AllEnded xs ⊎ IsLeast place xs
some_least place [] = inl (λ m b at. absurd (let e : None ≡ Some b = at in cc))
some_least place (x ∷ xs) = join place x xs x.ended refl (some_least (λ m. place (suc m)) xs)
