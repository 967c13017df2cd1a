-- What the definitions and the clauses of this crate cite of std and of the crates below, passed on from one place.
pub use Rattle.std.specs.Prelude.{Bool, Contains, Err, IfErr, IfOk, IfSome, IsTrue, List, None, Ok, OnErr, OnOk, Option, Result, Some, [], false, if◌then◌else◌, length, replicate, slice_get, slice_set, suc, true, zero, ℕ, ℤ, ◌&&◌, ◌++◌, ◌+◌, ◌<◌, ◌==◌, ◌^◌, ◌↔◌, ◌∷◌, ◌≡◌, ◌≢◌, ◌≤◌, ◌⊎◌}
pub use Rattle.sig_base.specs.Places.{packed}
pub use Rattle.sig_base.specs.declared.ids.Full.{Full}
pub use Rattle.sig_base.specs.declared.ids.OpId.{OpId}
pub use Rattle.sig_plan.specs.Prelude.{Ref, Spans}
pub use Rattle.sig_model.specs.Actors.{Actor, code_of, ended_at, moved_on, position_of, slot_holds}
pub use Rattle.sig_model.specs.Operating.{Faults, Gives, Outcome, outcome}
pub use Rattle.sig_model.specs.Prelude.{Cause, Collect, Commit, Depends, Do, Holds, Kernel, Limit, Node, Op, Place, PlanView, Receive, Report, Send, SigId, Slot, Step, StepKind, outputs_of, seen_lines, test}
pub use Rattle.sig_model.specs.Runnable.{FillsAt, IsRunnable, IsThere}
pub use Rattle.sig_model.specs.Turns.{AtLimit, Commits, Fails, Goes, Puts, Reaction, Stopped, Takes, Turn, carried, item_of, received, turn, turn_at, turn_by}
pub use Rattle.sig_machine.specs.ActorMachines.{IsMachineOfActor, IsOpOfStep, IsStepDone, actor_in, instant_of, last_in, seen_in, truths_in}
pub use Rattle.sig_machine.specs.Following.{AreFollowed, DoOperations}
pub use Rattle.sig_machine.specs.declared.actor.ActorMachine.{ActorMachine}
pub use Rattle.sig_flow.specs.OutputLines.{longest_lines}
pub use Rattle.sig_values.specs.Lines.{line_at}
pub use Rattle.sig_flow.specs.Prelude.{Rose, TookPrefix}
pub use Rattle.sig_machine.specs.Prelude.{AreFlowsFor, IsAccepted, Registers, opening_actor, truths_of}
pub use Rattle.sig_model.specs.Turns.{reaction_in}
