-- Lemmas on lists of operands.
use Rattle.sig_kernel.proofs.Common.{◌≡◌, ◌≤◌, ◌<◌, false, List, [], ◌∷◌, length, refl, ◌∙◌, ap, arith, ◌&&◌, and-false, Signal, operand_is, operands_are, Operand, Sort}

-- more than one operand are not one
pub more_than_one : (signals : List Signal) (operands : List Operand) (sort : Sort) → 2 ≤ length operands → operands_are signals operands (sort ∷ []) ≡ false
more_than_one signals [] sort le = refl
more_than_one signals (a ∷ []) sort le = absurd (omega (arith, le))
more_than_one signals (a ∷ b ∷ more) sort le = and-false (operand_is signals a sort)

pub less_than_two : (signals : List Signal) (operands : List Operand) (s t : Sort) → length operands < 2 → operands_are signals operands (s ∷ t ∷ []) ≡ false
less_than_two signals [] s t lt = refl
less_than_two signals (a ∷ []) s t lt = and-false (operand_is signals a s)
less_than_two signals (a ∷ b ∷ more) s t lt = absurd (omega (arith, lt))

pub more_than_two : (signals : List Signal) (operands : List Operand) (s t : Sort) → 3 ≤ length operands → operands_are signals operands (s ∷ t ∷ []) ≡ false
more_than_two signals [] s t le = refl
more_than_two signals (a ∷ []) s t le = absurd (omega (arith, le))
more_than_two signals (a ∷ b ∷ []) s t le = absurd (omega (arith, le))
more_than_two signals (a ∷ b ∷ c ∷ more) s t le =
    ap (λ x. operand_is signals a s && x) (and-false (operand_is signals b t)) ∙ and-false (operand_is signals a s)
