-- What the definitions and the clauses of this crate cite of std and of the crates below, passed on from one place.
pub use Rattle.std.specs.Prelude.{Contains, List, Option, Some, [], false, length, slice_get, slice_index_or, true, ℕ, ℤ, ◌++◌, ◌+◌, ◌<◌, ◌∷◌, ◌≡◌, ◌≤◌, ◌⊎◌}
pub use Rattle.sig_base.specs.Functions.{operand_count}
pub use Rattle.sig_kernel.specs.KernelTraces.{IsReaction, Memory, remembered}
pub use Rattle.sig_kernel.specs.Prelude.{Bounded, Gives, IsValue, Span}
pub use Rattle.sig_kernel.specs.Table.{kind_at}
pub use Rattle.sig_kernel.specs.Validity.{AreFlowsFor, IsValid}
pub use Rattle.sig_plan.specs.Operations.{operation_in}
pub use Rattle.sig_plan.specs.Order.{Writes}
pub use Rattle.sig_plan.specs.Plans.{IsAccepted}
pub use Rattle.sig_model.specs.Actors.{Actor, Registers, truths_of}
pub use Rattle.sig_model.specs.Causes.{HasFault, IsEnd, Meets, MeetsAt, place_at}
pub use Rattle.sig_model.specs.Operating.{Faults, Outcome, first_in, outcome}
pub use Rattle.sig_model.specs.Prelude.{Cause, Delay, Ended, EqId, Equation, Fits, Function, Instant, IsKernelTrace, IsLongest, IsPrefixOf, Kernel, Kind, NoneSilent, Op, Operation, Place, PlanView, Read, SigId, Signal, Store, Trace, Unbounded, flow_of, is_silent, numbers_of, operations_in, seen_at, test}
pub use Rattle.sig_model.specs.References.{IsReference}
pub use Rattle.sig_model.specs.Results.{result_of}
