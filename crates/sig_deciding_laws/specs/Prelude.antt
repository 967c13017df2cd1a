-- What the definitions and the clauses of this crate cite of std and of the crates below, passed on from one place.
pub use Rattle.std.specs.Prelude.{List, Option, Some, length, ℕ, ℤ, ◌+◌, ◌≡◌, ◌≤◌, ◌⊎◌}
pub use Rattle.sig_plan.specs.Acceptance.{HasOperations, IsAcceptedKernel, IsRefusedFor, KernelFault}
pub use Rattle.sig_plan.specs.Operations.{AreOperations}
pub use Rattle.sig_plan.specs.Order.{IsCompiledOrder}
pub use Rattle.sig_plan.specs.Parts.{AreParts, PartsView}
pub use Rattle.sig_plan.specs.Prelude.{AreClocks, ClocksView, IsStore, LINKS, StoreView}
pub use Rattle.sig_plan.specs.declared.parts.LinkInfo.{LinkInfo}
pub use Rattle.sig_model.specs.Causes.{IsNamedCause}
pub use Rattle.sig_meaning_laws.specs.Ends.{IsCut, StopsBefore}
pub use Rattle.sig_meaning_laws.specs.Faults.{IsFirstFault}
pub use Rattle.sig_meaning_laws.specs.Prelude.{AreFlowsFor, Ended, Instant, IsAccepted, IsEnd, IsKernelTrace, IsLongest, IsPrefixOf, IsReference, IsValid, Kernel, Memory, Op, Operation, Place, PlanView, SigId, Trace, numbers_of, operations_in, place_at}
pub use Rattle.sig_meaning_laws.specs.Reactions.{HasOneReaction, IsNext}
