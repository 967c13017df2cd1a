-- Operations of an actor that its machine does in a row.
use Rattle.std.specs.Prelude.{◌≡◌, ◌<◌, ◌+◌}
use Rattle.sig_machine.specs.Prelude.{ℕ, zero, suc, ℤ, true, List, Cause, Faults, Kernel, Op, PlanView, outcome}
use Rattle.sig_machine.specs.ActorMachines.{IsMachineOfActor, IsOpOfStep, IsStepDone, actor_in}
use Rattle.sig_machine.specs.declared.actor.ActorMachine.{ActorMachine}

-- The operation of a step was done, and its value kept.
pub record IsFollowed (plan : PlanView) (k : ℕ) (flows : List (List ℤ)) (number : ℕ) (old new : ActorMachine) : Type 0 where
  pub machine : IsMachineOfActor plan k flows new
  pub done : (op : Op) → IsOpOfStep plan k number op → IsStepDone plan.kernel flows op true old new

-- from a step on those of so many were done, one after another
abbrev pub AreFollowed : PlanView → ℕ → List (List ℤ) → ℕ → ℕ → ActorMachine → ActorMachine → Type 0
AreFollowed plan k flows from zero old new = new ≡ old
AreFollowed plan k flows from (suc n) old new =
    (mid : ActorMachine) × AreFollowed plan k flows from n old mid × IsFollowed plan k flows (from + n) mid new

-- from a step on so many do operations
abbrev pub DoOperations : PlanView → ℕ → ℕ → ℕ → Type 0
DoOperations plan k from count = (n : ℕ) → n < count → (op : Op) × IsOpOfStep plan k (from + n) op

-- an operation has a fault
abbrev pub HasFault : Kernel → List (List ℤ) → Op → ActorMachine → Type 0
HasFault kernel flows op a = (cause : Cause) × ((step : ℕ) → outcome kernel flows (actor_in a step) op ≡ Faults cause)
