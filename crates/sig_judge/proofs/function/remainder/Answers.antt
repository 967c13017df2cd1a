use Rattle.sig_judge.proofs.{◌≡◌, ℤ, pos, Some, ap, ◌∙◌, rules, to_z-of_z, w64, FitsSigned, int_rem, cast_unsigned, remainder_is}
use Rattle.sig_judge.proofs.function.remainder.Goals as goal

pub returns-else-divisor-eq0 : goal.returns-else-divisor-eq0
returns-else-divisor-eq0 c =
    let r = c.wrapping_rem.result in
    let f : FitsSigned w64 r = search rules in
    let is : r ≡ int_rem c.args.x c.args.divisor = rw (to_z-of_z w64 c.args.x c.ranges.x, to_z-of_z w64 c.args.divisor c.ranges.divisor) at c.wrapping_rem.ensures in
    let some : c.args.divisor ≡ pos 0 → ⊥ = λ zero. c.if-divisor-eq0.false (ap (λ (z : ℤ). cast_unsigned w64 z) zero) in
    (r, ap Some (to_z-of_z w64 r f), (some, is ∙ remainder_is c.args.x c.args.divisor some), f)
