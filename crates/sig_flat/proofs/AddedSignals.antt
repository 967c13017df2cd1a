-- Instants that say of signals behind those that are there what these are.
use Rattle.sig_flat.proofs.Common.{◌≡◌, ◌≤◌, ◌<◌, ◌+◌, ◌++◌, ℕ, suc, List, [], ◌∷◌, Option, None, Some, length, refl, sym, ap, subst, ◌∙◌, arith, append_assoc, ⊎_elim, cases_order, length-append, ◌⊎◌, Kind, Event, Signal as Declared, Span, Seen, Instant, Bounded, IsOfKind, AreOfKinds, seen_at, Found, clock_of, kinds_of, Site, Made, with_signal, with_own, with_clocks, own, next as next_signal, one_longer}
use Rattle.sig_tree.specs.Operators.{Signal}
use Rattle.sig_flat.proofs.Agreement.{Agree, seen_before, seen_last, kinds_length, kinds_more}
use Rattle.sig_flat.proofs.AddedBehind.{Grows}
use Rattle.sig_flat.proofs.Kinded.{clock_kind}

-- signals that begin with others
pub record Over (signals : List Declared) (made : Made) : Type 0 where
  pub more : List Declared
  pub is : made.signals ≡ signals ++ more

pub over_size : (signals : List Declared) (made : Made) → Over signals made → length signals ≤ length made.signals
over_size signals made o = let e : length made.signals ≡ length signals + length o.more = ap length o.is ∙ length-append signals o.more in omega arith

pub over_then : (signals : List Declared) (a b : Made) → Over signals a → Grows a b → Over signals b
over_then signals a b o g = record {
  more = o.more ++ g.more;
  is = g.is ∙ (ap (λ (xs : List Declared). xs ++ g.more) o.is ∙ append_assoc signals o.more g.more);
}

pub grows_size : (a b : Made) → Grows a b → length a.signals ≤ length b.signals
grows_size a b g = let e : length b.signals ≡ length a.signals + length g.more = ap length g.is ∙ length-append a.signals g.more in omega arith

agree_last : (n : ℕ) (a b : Instant) → Agree n a b → seen_at a n ≡ seen_at b n → Agree (suc n) a b
agree_last n a b h last x below = ⊎_elim
    (λ (e : x ≡ n). subst (λ k. seen_at a k ≡ seen_at b k) (sym e) last)
    (λ (k : (x < n) ⊎ (n < x)). ⊎_elim (λ (lt : x < n). h x lt) (λ (lt : n < x). absurd (omega arith)) k)
    (cases_order x n)

-- what the instants are that say so of one signal more
pub record Adds (before after : Made) (now : Instant) (number : ℕ) (v : Seen) : Type 0 where
  pub whole : Instant
  pub kinds : AreOfKinds Bounded (kinds_of after.signals) whole
  pub to : (other : Instant) → Agree (next_signal after) whole other → Agree (next_signal before) now other × (seen_at other number ≡ v)
  pub from : (other : Instant) → Agree (next_signal before) now other → seen_at other number ≡ v → Agree (next_signal after) whole other

pub next_is : (site : Site) (kind : Kind) (at : Span) (made : Made) → suc (next_signal made) ≡ next_signal (with_signal site kind at made)
next_is site kind at made = sym (one_longer made.signals _)

pub adds_signal : (site : Site) (kind : Kind) (at : Span) (made : Made) (now : Instant) (number : ℕ) (v : Seen) → AreOfKinds Bounded (kinds_of made.signals) now
    → IsOfKind Bounded kind v → number ≡ next_signal made → Adds made (with_signal site kind at made) now number v
adds_signal site kind at made now number v h k is =
    let size : length now ≡ length made.signals = kinds_length made.signals now h in
    let longer : suc (next_signal made) ≡ next_signal (with_signal site kind at made) = next_is site kind at made in
    let whole : Instant = now ++ v ∷ [] in
    let here : number ≡ length now = is ∙ sym size in
    let last : seen_at whole number ≡ v = ap (seen_at whole) here ∙ seen_last now v in
    record {
      whole = whole;
      kinds = kinds_more made.signals now _ v h k;
      to = λ other agree. (λ x below. sym (seen_before now v x (omega arith)) ∙ agree x (omega arith), sym (agree number (omega arith)) ∙ last);
      from = λ other agree e. subst (λ (n : ℕ). Agree n whole other) longer
          (agree_last (next_signal made) whole other (λ x below. seen_before now v x (omega arith) ∙ agree x below)
          (subst (λ (n : ℕ). seen_at whole n ≡ seen_at other n) is (last ∙ sym e)));
    }

-- what is to be so of a left side
abbrev pub LeftIs : Option ℕ → ℕ → Instant → Found → Type 0
LeftIs None count now o = Unit {0}
LeftIs (Some left) count now o = (left < count) × (Signal (seen_at now left) ≡ o)

pub left_later : (left : Option ℕ) (m n : ℕ) (now whole : Instant) (o : Found) → m ≤ n → Agree m now whole → LeftIs left m now o → LeftIs left n whole o
left_later None m n now whole o more agree h = tt
left_later (Some left) m n now whole o more agree h = let below : left < m = h.0 in (omega arith, ap Signal (sym (agree left below)) ∙ h.1)

pub same_seen : (v w : Seen) → Signal v ≡ Signal w → v ≡ w
same_seen v w e = cc

pub adds_own : (left : Option ℕ) (site : Site) (kind : Kind) (at : Span) (made : Made) (now : Instant) (v : Seen) → AreOfKinds Bounded (kinds_of made.signals) now
    → IsOfKind Bounded kind v → LeftIs left (next_signal made) now (Signal v) → Adds made (with_own left site kind at made) now (own left made) v
adds_own None site kind at made now v h k is = adds_signal site kind at made now (next_signal made) v h k refl
adds_own (Some left) site kind at made now v h k is = record {
  whole = now;
  kinds = h;
  to = λ other agree. (agree, sym (agree left is.0) ∙ same_seen (seen_at now left) v is.1);
  from = λ other agree e. agree;
}

pub adds_begins : (before after : Made) (now : Instant) (number : ℕ) (v : Seen) (a : Adds before after now number v) → Agree (next_signal before) now a.whole
adds_begins before after now number v a = (a.to a.whole (λ x below. refl)).0

-- two events where signals are present
pub record Clocks (made clocks : Made) (now : Instant) (s t : Seen) : Type 0 where
  pub whole : Instant
  pub kinds : AreOfKinds Bounded (kinds_of clocks.signals) whole
  pub to : (other : Instant) → Agree (next_signal clocks) whole other
      → Agree (next_signal made) now other × (seen_at other (next_signal made) ≡ clock_of s) × (seen_at other (suc (next_signal made)) ≡ clock_of t)
  pub from : (other : Instant) → Agree (next_signal made) now other → seen_at other (next_signal made) ≡ clock_of s
      → seen_at other (suc (next_signal made)) ≡ clock_of t → Agree (next_signal clocks) whole other

pub clocks_added : (site : Site) (at : Span) (made : Made) (now : Instant) (s t : Seen) → AreOfKinds Bounded (kinds_of made.signals) now → Clocks made (with_clocks site at made) now s t
clocks_added site at made now s t h =
    let one : Made = with_signal site Event at made in
    let e : ℕ = next_signal made in
    let a : Adds made one now e (clock_of s) = adds_signal site Event at made now e (clock_of s) h (clock_kind s) refl in
    let b : Adds one (with_signal site Event at one) a.whole (suc e) (clock_of t) = adds_signal site Event at one a.whole (suc e) (clock_of t) a.kinds (clock_kind t) (next_is site Event at made) in
    record {
      whole = b.whole;
      kinds = b.kinds;
      to = λ other agree. let second = b.to other agree in let first = a.to other second.0 in (first.0, first.1, second.1);
      from = λ other agree x y. b.from other (a.from other agree x) y;
    }

pub clocks_begin : (made clocks : Made) (now : Instant) (s t : Seen) (c : Clocks made clocks now s t) → Agree (next_signal made) now c.whole
clocks_begin made clocks now s t c = (c.to c.whole (λ x below. refl)).0
