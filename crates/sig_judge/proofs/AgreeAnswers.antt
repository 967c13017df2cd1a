-- Operands that agree, and equations of them.
use Rattle.sig_judge.proofs.Common.{Bool, true, false, List, [], refl, Instant, FlatExpression, Equal, EquationSteps, Agree, DecidesWhether}

pub equal_whether : (now : Instant) (es : List FlatExpression) (result : Bool) (nexts : List FlatExpression) → DecidesWhether (Agree now es) result nexts → DecidesWhether (EquationSteps now (Equal es [])) result (Equal nexts [])
equal_whether now es true nexts h = (nexts, h, refl)
equal_whether now es false nexts h = λ other s. h s.0 s.1
