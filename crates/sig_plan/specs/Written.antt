-- Operations that write the signals of a kernel.
use Rattle.std.specs.Prelude.{◌≡◌, ◌<◌}
use Rattle.sig_plan.specs.Prelude.{List, length, slice_get, Some, SigId, Signal}
use Rattle.sig_plan.specs.Operations.{Operation}
use Rattle.sig_plan.specs.Order.{Writes}
use Rattle.sig_plan.specs.Parts.{IsOperation}

-- an operation writes a signal of its own cluster, and each signal is written by some operation
pub record AreWritten (signals : List Signal) (operations : List Operation) : Type 0 where
  pub owner : (p : Operation) (x : SigId) → IsOperation operations p → Writes p x → (owner : Signal) × (slice_get signals x.0 ≡ Some owner) × (p.cluster ≡ owner.cluster)
  pub writer : (x : SigId) → x.0 < length signals → (p : Operation) × IsOperation operations p × Writes p x
