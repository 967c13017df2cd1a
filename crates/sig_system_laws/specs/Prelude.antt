-- What the definitions and the clauses of this crate cite of std and of the crates below, passed on from one place.
pub use Rattle.std.specs.Prelude.{List, None, Option, Some, [], false, length, map, slice_get, slice_index_or, ℕ, ℤ}
pub use Rattle.std.specs.List.{AllByRecursion, range_with_len}
pub use Rattle.sig_base.specs.Traces.{Bounded, Instant, IsPrefixOf, IsValue, Trace, Unbounded, flow_of, is_silent}
pub use Rattle.sig_base.specs.declared.ids.Kind.{Kind}
pub use Rattle.sig_base.specs.declared.ids.SigId.{SigId}
pub use Rattle.sig_base.specs.declared.place.Place.{Place}
pub use Rattle.sig_kernel.specs.KernelTraces.{IsReaction, remembered}
pub use Rattle.sig_kernel.specs.Table.{kind_of}
pub use Rattle.sig_kernel.specs.Validity.{AreFlowsFor, IsValid}
pub use Rattle.sig_kernel.specs.declared.kernel.Kernel.{Kernel}
pub use Rattle.sig_plan.specs.Acceptance.{IsAcceptedKernel}
pub use Rattle.sig_plan.specs.declared.ended.Cause.TheVariants.{Exhausted}
pub use Rattle.sig_plan.specs.declared.ended.Ended.{Ended}
pub use Rattle.sig_deciding_laws.specs.KernelRuns.{IsKernelEnd}
