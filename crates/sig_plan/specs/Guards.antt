-- The guards of a plan.
use Rattle.std.specs.Prelude.{◌≡◌}
use Rattle.sig_plan.specs.Prelude.{ℕ, slice_get, Some, Ref}
use Rattle.sig_plan.specs.Codes.{CodeView}
use Rattle.sig_plan.specs.Plans.{PlanView}
use Rattle.sig_plan.specs.declared.code.Slot.{Slot}
use Rattle.sig_plan.specs.declared.op.Op.{Op}

-- a guard of the plan: that of one of its operations, or of a slot of one of its codes
pub data IsGuardOf (plan : PlanView) : Ref → Type 0 where
  of_operation : (number : ℕ) (op : Op) → slice_get plan.ops number ≡ Some op → IsGuardOf plan op.guard
  of_slot : (actor number : ℕ) (code : CodeView) (slot : Slot) → slice_get plan.codes actor ≡ Some code → slice_get code.slots number ≡ Some slot
      → IsGuardOf plan slot.guard
