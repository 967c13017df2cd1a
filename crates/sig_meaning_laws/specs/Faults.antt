-- The faults of an instant, in the compiled order.
use Rattle.std.specs.Prelude.{◌≤◌}
use Rattle.sig_meaning_laws.specs.Prelude.{ℕ, ℤ, List, Instant, Trace, Kernel, HasFault, MeetsAt, Operation, Cause}

-- an instant behind a trace has a fault, which the operation at this place of the order meets
pub record IsFaultAt (kernel : Kernel) (operations : List Operation) (order : List ℕ) (flows : List (List ℤ)) (trace : Trace) (instant : Instant) (place : ℕ) (cause : Cause) : Type 0 where
  pub met : MeetsAt operations order place cause
  pub fault : HasFault kernel flows trace instant cause

-- and no operation meets one at an earlier place
pub record IsFirstFault (kernel : Kernel) (operations : List Operation) (order : List ℕ) (flows : List (List ℤ)) (trace : Trace) (instant : Instant) (place : ℕ) (cause : Cause) : Type 0 where
  pub is : IsFaultAt kernel operations order flows trace instant place cause
  pub first : (other : ℕ) (another : Cause) → IsFaultAt kernel operations order flows trace instant other another → place ≤ other
