-- What the definitions and the clauses of this crate cite of std and of the crates below, passed on from one place.
pub use Rattle.std.specs.Prelude.{List, None, Option, Some, [], length, nat_lt, slice_get, take, ℕ, ℤ}
pub use Rattle.sig_base.specs.Traces.{IsPrefixOf, Instant, Trace, flow_of, seen_at}
pub use Rattle.sig_base.specs.declared.place.Place.{Place}
pub use Rattle.sig_base.specs.declared.signal.Signal.{Signal}
pub use Rattle.sig_kernel.specs.Validity.{AreFlowsFor}
pub use Rattle.sig_plan.specs.Codes.{CodeView}
pub use Rattle.sig_plan.specs.Plans.{IsAccepted, PlanView}
pub use Rattle.sig_plan.specs.declared.code.Step.{Step}
pub use Rattle.sig_plan.specs.declared.ended.Ended.{Ended}
pub use Rattle.sig_plan.specs.declared.op.Op.{Op}
pub use Rattle.sig_model.specs.Actors.{Actor, code_of, guard_holds}
pub use Rattle.sig_model.specs.Causes.{IsEnd}
pub use Rattle.sig_model.specs.Cores.{Core, Given, IsFinished, after, opening, stepped}
pub use Rattle.sig_model.specs.Operating.{Faults, Gives, Outcome, outcome}
pub use Rattle.sig_model.specs.Progress.{names, op_of}
pub use Rattle.sig_model.specs.References.{IsReference}
pub use Rattle.sig_model.specs.declared.event.Event.{Event}
