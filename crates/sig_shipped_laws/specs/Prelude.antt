-- What the definitions and the clauses of this crate cite of std and of the crates below, passed on from one place.
pub use Rattle.std.specs.Prelude.{ℕ, ℤ, List, None, Option, Some, slice_get}
pub use Rattle.sig_base.specs.Traces.{Trace}
pub use Rattle.sig_base.specs.declared.ids.EqId.{EqId}
pub use Rattle.sig_base.specs.declared.place.Place.{Place}
pub use Rattle.sig_base.specs.declared.span.Span.{Span}
pub use Rattle.sig_kernel.specs.OutputText.{output_text}
pub use Rattle.sig_kernel.specs.Validity.{AreFlowsFor}
pub use Rattle.sig_kernel.specs.declared.equation.Equation.{Equation}
pub use Rattle.sig_kernel.specs.declared.kernel.Kernel.{Kernel}
pub use Rattle.sig_plan.specs.Plans.{IsAccepted, PlanView}
pub use Rattle.sig_plan.specs.declared.ended.Cause.{Cause}
pub use Rattle.sig_plan.specs.declared.ended.Ended.{Ended}
pub use Rattle.sig_file.specs.Guarded.{IsSoundImage}
pub use Rattle.sig_file.specs.ImageRuns.{IsImageRun}
pub use Rattle.sig_file.specs.PlanImages.{image_of}
pub use Rattle.sig_file.specs.declared.run.ImageCause.{ImageCause}
pub use Rattle.sig_file.specs.declared.run.ImageEnd.{ImageEnd}
pub use Rattle.sig_meaning_laws.specs.Prelude.{IsEnd}
