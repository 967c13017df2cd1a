-- What the definitions and the clauses of this crate cite of std and of the crates below, passed on from one place.
pub use Rattle.std.specs.Prelude.{List, None, Option, Some, [], false, if◌then◌else◌, length, slice_get, take, ℕ, ℤ, ⊤, ◌*◌, ◌+◌, ◌-◌, ◌<◌, ◌∷◌, ◌≡◌, ◌≤◌, ◌⊎◌}
pub use Rattle.sig_model.specs.Actors.{code_of}
pub use Rattle.sig_model.specs.Cores.{Core, Given, IsEnabled, IsFinished, after, cause_of, is_before, opening, reactions_text, stepped}
pub use Rattle.sig_model.specs.Prelude.{CodeView, Do, Place, Step}
pub use Rattle.sig_model.specs.Progress.{IsFaulty, IsOnReference, reactions_of}
pub use Rattle.sig_model.specs.Runnable.{IsRunnable}
pub use Rattle.sig_model.specs.declared.event.Event.{Event}
pub use Rattle.sig_doing_laws.specs.Prelude.{Actor, AreFlowsFor, Ended, IsAccepted, IsEnd, IsPrefixOf, IsReference, OpId, PlanView, Trace, output_text}
