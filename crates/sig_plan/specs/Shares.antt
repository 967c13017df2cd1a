-- What the making of operations may do to a store.
use Rattle.std.specs.Prelude.{◌+◌, ◌*◌, ◌<◌, ◌≤◌}
use Rattle.sig_plan.specs.Prelude.{ℕ, List, length, Result, IfErr, range_with_len, SigId, StoreView, IsFull, allowance, Kernel}
use Rattle.sig_plan.specs.declared.answer.PlanAnswer.{PlanAnswer}
use Rattle.sig_plan.specs.declared.answer.PlanAnswer.TheVariants.{Budget, OutOfMemory}

-- how many nodes the guards of a kernel's operations may add: those of two calls over all conditions for each equation
abbrev pub share_of : Kernel → List SigId → ℕ
share_of kernel conditions = 2 * length kernel.equations * allowance (range_with_len 0 (length conditions))

-- a refusal for the number of nodes comes where the store is full and, before the call, would have had no room for its share
abbrev pub IsRefusedFor : StoreView → StoreView → ℕ → PlanAnswer → Type 0
IsRefusedFor old new room (Budget n) = IsFull new n × (n < length old.nodes + room)
IsRefusedFor old new room OutOfMemory = Unit {0}

-- a call keeps to its share
pub record KeepsToShare {T : Type 0} (room : ℕ) (old new : StoreView) (result : Result T PlanAnswer) : Type 0 where
  pub added : length new.nodes ≤ length old.nodes + room
  pub refused : IfErr result (IsRefusedFor old new room)
