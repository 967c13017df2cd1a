-- What the definitions and the clauses of this crate cite of std and of the crates below, passed on from one place.
pub use Rattle.std.specs.Prelude.{List, None, Some, [], false, length, slice_get, true, ℕ, ℤ, ◌++◌, ◌+◌, ◌<◌, ◌∷◌, ◌≡◌, ◌≤◌}
pub use Rattle.sig_base.specs.declared.ids.OpId.{OpId}
pub use Rattle.sig_kernel.specs.OutputText.{instant_text, output_text}
pub use Rattle.sig_model.specs.Actors.{no_registers, opening_actor}
pub use Rattle.sig_model.specs.Operating.{Gives, operated}
pub use Rattle.sig_model.specs.Prelude.{Limit, OpKind, outputs_of, seen_lines}
pub use Rattle.sig_model.specs.Turns.{reaction_in}
pub use Rattle.sig_meaning_laws.specs.Faults.{IsFaultAt}
pub use Rattle.sig_meaning_laws.specs.Prelude.{Actor, AreFlowsFor, Cause, Delay, Ended, EqId, Equation, Faults, Fits, Instant, IsAccepted, IsEnd, IsKernelTrace, IsLongest, IsPrefixOf, IsReference, Kernel, NoneSilent, Op, PlanView, Read, SigId, Store, Trace, flow_of, numbers_of, operations_in, outcome, place_at, remembered, seen_at, test, truths_of}
