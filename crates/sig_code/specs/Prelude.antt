-- What the definitions and the clauses of this crate cite of std and of the crates below, passed on from one place.
pub use Rattle.std.specs.Prelude.{All, Bool, IfOk, List, None, OnOk, Option, Some, [], codes, decimal, filter_map, flat_map, if◌then◌else◌, length, map, option_to_list, position, slice_get, ℕ, ◌*◌, ◌++◌, ◌+◌, ◌<◌, ◌==◌, ◌^◌, ◌∷◌, ◌≡◌, ◌⊎◌}
pub use Rattle.sig_plan.specs.Codes.{AreSlots, CodeView, Instruction, IsLastBelow, IsStepOf, always, at_end, at_number, instructions_of, is_signal, numbered, over_order}
pub use Rattle.sig_plan.specs.Operations.{AreOperations, operations_in}
pub use Rattle.sig_plan.specs.Order.{IsCompiledOrder}
pub use Rattle.sig_plan.specs.Parts.{AreParts, PartsView}
pub use Rattle.sig_plan.specs.Plans.{IsAccepted, PlanView, numbers_of}
pub use Rattle.sig_plan.specs.Prelude.{AreClocks, ClocksView, Default, Delay, Equation, Event, Form, Fun, HasClocks, Holds, Implies, IsRefOf, IsStore, IsValid, Kernel, Node, OpId, Ref, SigId, Signal, StoreView, Sync, When, WhenConst, enumerate_from, test}
pub use Rattle.sig_plan.specs.declared.code.Slot.{Slot}
pub use Rattle.sig_plan.specs.declared.code.Step.{Step}
pub use Rattle.sig_plan.specs.declared.code.StepKind.{StepKind}
pub use Rattle.sig_plan.specs.declared.code.StepKind.TheVariants.{Collect, Commit, Do, Receive, Report, Send}
pub use Rattle.sig_plan.specs.declared.op.Op.{Op}
pub use Rattle.sig_plan.specs.declared.op.OpKind.{OpKind}
pub use Rattle.sig_plan.specs.declared.op.OpKind.TheVariants.{Compute, DelayRead, Left, Read, Right, Store}
pub use Rattle.sig_plan.specs.declared.parts.LinkInfo.{LinkInfo}
