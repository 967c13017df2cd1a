-- Truth values.
use Rattle.std.proofs.Common.{Bool, IsTrue, false, inl, inr, not, refl, sym, true, true≢false, ◌&&◌, ◌||◌, ◌↔◌, ◌∙◌, ◌≡◌, ◌≢◌, ◌⊎◌}
use Rattle.std.proofs.Math.Bool.{or-false}
use Rattle.std.proofs.lemmas.Bool.{and_parts, false≢true}

pub not_true : (b : Bool) → not b ≡ true → b ≡ false
not_true true e = absurd (false≢true e)
not_true false e = refl

pub and_first : (a b : Bool) → (a && b) ≡ true → a ≡ true
and_first true b h = refl
and_first false b h = h

pub and_second : (a b : Bool) → (a && b) ≡ true → b ≡ true
and_second true b h = h
and_second false b h = absurd (true≢false (sym h))

pub both_ways : (b : Bool) → b ≡ true → b ≡ false → ⊥
both_ways b one two = let clash : true ≡ false = sym one ∙ two in cc

pub two_parts : (p q : Bool) → ((p && (q && true)) || false) ≡ true → (p ≡ true) × (q ≡ true)
two_parts p q all =
    let parts = and_parts p (q && true) (sym (or-false (p && (q && true))) ∙ all) in
    (parts.0, (and_parts q true parts.1).0)

pub same_truth : (x y : Bool) → (x ≡ y) ⊎ (x ≢ y)
same_truth true true = inl refl
same_truth true false = inr true≢false
same_truth false true = inr false≢true
same_truth false false = inl refl

pub both_true : (a b : Bool) → IsTrue (a && b) ↔ (IsTrue a × IsTrue b)
both_true true b = ((λ t. (refl, t)), (λ p. p.1))
both_true false b = ((λ t. absurd (false≢true t)), (λ p. absurd (false≢true p.0)))
