-- How the operations of a kernel are made one after another.
use Rattle.std.specs.Prelude.{◌≡◌, ◌*◌, ◌<◌, ◌++◌}
use Rattle.sig_plan.specs.Prelude.{ℕ, List, All, Contains, Result, length, slice_index, ClocksView, Holds, IsStore, Keeps, Spans, StoreView, allowance, Node, Ref}
use Rattle.sig_plan.specs.Operations.{Operation, Presence, operation_in, operations_in, presence_in}
use Rattle.sig_plan.specs.Shares.{KeepsToShare}
use Rattle.sig_plan.specs.declared.answer.PlanAnswer.{PlanAnswer}
use Rattle.sig_plan.specs.declared.op.Op.{Op}

-- each of so many signals has a class, and each class a guard
pub record HaveGuards (clocks : ClocksView) (signals : ℕ) : Type 0 where
  pub count : length clocks.class_of ≡ signals
  pub classes : (signal : ℕ) → signal < signals → slice_index clocks.class_of signal < length clocks.guard

-- the guards of the operations are held by the store
abbrev pub AreHeld : List Node → List Op → Type 0
AreHeld nodes ops = All (λ op. Holds nodes op.guard) ops

-- and so are the guards of clocks
abbrev pub HoldGuards : List Node → ClocksView → Type 0
HoldGuards nodes clocks = (guard : Ref) → Contains clocks.guard guard → Holds nodes guard

-- the guards of clocks depend on the variables vs alone
abbrev pub AreOver : List Node → List ℕ → ClocksView → Type 0
AreOver nodes vs clocks = (guard : Ref) → Contains clocks.guard guard → Spans nodes guard vs

-- an operation whose guard is one of the clocks' guards is as it should be, whichever nodes hold these
pub record IsMade (clocks : ClocksView) (make : Presence → Operation) (op : Op) : Type 0 where
  pub is : (nodes : List Node) → operation_in nodes op ≡ make (presence_in nodes clocks)
  pub guard : Contains clocks.guard op.guard

-- such operations were added behind others
pub record Adds (clocks : ClocksView) (make : Presence → List Operation) (old new : List Op) : Type 0 where
  pub are : (nodes : List Node) → operations_in nodes new ≡ operations_in nodes old ++ make (presence_in nodes clocks)
  pub held : (nodes : List Node) → HoldGuards nodes clocks → AreHeld nodes old → AreHeld nodes new

-- operations were added behind others while the store grew
pub record Extends (old_nodes new_nodes : List Node) (clocks : ClocksView) (make : Presence → List Operation) (old new : List Op) : Type 0 where
  pub are : operations_in new_nodes new ≡ operations_in old_nodes old ++ make (presence_in old_nodes clocks)
  pub held : AreHeld new_nodes new

-- so many calls of a store, over each list of variables on which the guards of clocks depend, keep to their share
pub record Spends {T : Type 0} (calls : ℕ) (clocks : ClocksView) (old new : StoreView) (result : Result T PlanAnswer) : Type 0 where
  pub store : IsStore new
  pub kept : Keeps old new
  pub share : (vs : List ℕ) → AreOver old.nodes vs clocks → KeepsToShare (calls * allowance vs) old new result
