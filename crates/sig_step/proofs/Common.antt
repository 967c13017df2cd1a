-- What the proofs of this crate cite of std, of the crates below and of its own specs, passed on from one place.
pub use Rattle.std.proofs.Common.{Bool, Contains, IfSome, List, None, OnErr, OnOk, Option, Some, [], ap, append_assoc, arith, cond, drop, false, get_or, if◌then◌else◌, inl, inr, length, length-append, length-set, map, nat_lt, refl, replicate, rules, set, slice_get, slice_index_or, subst, suc, sym, true, unwrap_or, w64, zero, ℕ, ℤ, ◌&&◌, ◌++◌, ◌+◌, ◌-◌, ◌<◌, ◌==◌, ◌^◌, ◌∙◌, ◌∷◌, ◌≡◌, ◌≢◌, ◌≤◌, ◌⊎◌}
pub use Rattle.sig_lists.proofs.Joined.{get_pushed}
pub use Rattle.sig_lists.proofs.SetItems.{get_set_other, get_set_same}
unfoldable pub use Rattle.sig_dd.specs.Diagram.{Tests, visited, with_truth}
pub use Rattle.sig_dd.proofs.Canonical.{proper}
pub use Rattle.sig_dd.proofs.Common.{Choice, Constant, Diagram, diagram, length-map, same_truth}
pub use Rattle.sig_dd.proofs.Functions.{tests_spanned}
pub use Rattle.sig_dd.proofs.Trees.{IsProper, Tests-later}
pub use Rattle.sig_model.specs.Runnable.{FillsAt, IsInSlot}
pub use Rattle.sig_values.proofs.Common.{TookPrefix, line_at, lines_of, longest_lines, same_Some}
pub use Rattle.sig_values.proofs.OutputLines.{interface_fits, line_more, lines_upto, prefix_of_lines}
pub use Rattle.sig_schedule_laws.proofs.CollectorCommits.{commit_last}
pub use Rattle.sig_schedule_laws.proofs.Common.{Actor, AtLimit, Cause, CodeView, Collect, Commit, Commits, Compute, DelayRead, Depends, Do, Fails, Faults, Gives, Goes, IsRunnable, IsThere, Kernel, Left, NamesWithin, Op, OpId, OpKind, Outcome, Place, PlanView, Puts, Read, Receive, Registers, Report, Right, Send, SigId, Slot, Step, StepKind, Stopped, Store, Takes, Turn, carried, code_of, fills, guard_holds, is_true, length-replicate, map_get, moved_on, next_place, no_code, no_registers, operated, outcome, outcome_by, outputs_of, position_of, reaction_in, received, slice_get-get_or, slice_get_within, slot_holds, some_at, step_names, target_of_op, test, truths_of, turn, turn_at, turn_by, turn_of_op, turn_with, with_at, with_signal}
pub use Rattle.sig_machine.specs.declared.actor.ActorMachine.{ActorMachine}
pub use Rattle.sig_machine.proofs.Common.{AreFollowed, DoOperations, Holds, IsAccepted, IsMachineOfActor, IsOpOfStep, IsReduced, IsStepDone, Node, Ref, Signal, actor_in, at_next, eqb_tells, err_from_is_err_and, instant_of, last_in, memory_of, seen_in, slice_get_read, to_z-of_z, truth_of}
pub use Rattle.sig_machine.proofs.Insides.{told_truths}
pub use Rattle.sig_machine.proofs.OneInstruction.{faults_it, gives_it}
pub use Rattle.sig_step.specs.Acting.{Acts, Counts, CountsAt, CountsNeeds, CountsWalk, Finds, NamesNoLink, TakesTurn}
pub use Rattle.sig_step.specs.GoingOn.{ActsOn, DoesStep, DoesSteps}
pub use Rattle.sig_step.specs.LinkEnds.{Asked, Asks, BothTell, Nothing, Past, PastGoesOn, Popped, Queues, QueuesGoOn}
pub use Rattle.sig_step.specs.Moving.{CanRun, IsReady, IsSameActor, IsSlotMet, MayGoOn, MovesOn}
pub use Rattle.sig_step.specs.States.{AreMarks, AreMarksAt, AreRows, IsInRow, IsRow, IsStateOf, KnowsGuard, actor_of, cause_by, cause_of_op, known_in, mark_holds, mark_is_met, parent_holds, place_of}
pub use Rattle.sig_step.specs.declared.answer.Acted.{Acted}
pub use Rattle.sig_step.specs.declared.answer.Acted.TheVariants.{AtLimit as AtTheLimit, Commit as CommitDone, Done, Empty, Failed, Full, Stopped as HasStopped}
pub use Rattle.sig_step.specs.declared.state.ClusterState.{ClusterState}
pub use Rattle.sig_step.specs.declared.state.Mark.{Mark}
pub use Rattle.sig_step.specs.inner.Passing.{IsKnown, Passes, PassesOver, PassesSo}
