-- What the definitions and the clauses of this crate cite of std and of the crates below, passed on from one place.
pub use Rattle.std.specs.Prelude.{Bool, List, None, Option, Some, [], count_by, false, length, map, slice_get, slice_index_or, suc, true, zero, ℕ, ℤ, ◌++◌, ◌-◌, ◌<◌, ◌==◌, ◌∷◌, ◌≡◌, ◌≢◌, ◌≤◌, ◌⊎◌}
pub use Rattle.sig_model.specs.Actors.{ended_at, next_place, opening_actor}
pub use Rattle.sig_model.specs.Cores.{word_before}
pub use Rattle.sig_model.specs.Prelude.{CodeView, Collect, Commit, Do, Kernel, LinkInfo, Place, Receive, Report, Send, Step, StepKind}
pub use Rattle.sig_model.specs.Turns.{AtLimit, Commits, Fails, Goes, Puts, Reaction, Stopped, Takes, Turn, turn}
pub use Rattle.sig_model.specs.declared.event.Event.TheVariants.{Act, Look}
pub use Rattle.sig_schedule_laws.specs.Changes.{AllChange}
pub use Rattle.sig_schedule_laws.specs.Prelude.{Actor, AreFlowsFor, Core, Event, Given, IsAccepted, IsFinished, after, code_of, is_before, opening}
