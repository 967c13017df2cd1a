-- What the proofs of this crate cite of std, of the crates below and of its own specs, passed on from one place.
pub use Rattle.std.proofs.Common.{Bool, Contains, Err, Global, IsTrue, List, None, Ok, OnErr, OnOk, Option, Result, Some, [], ap, append-nil, append_assoc, arith, cond, deque_capacity, drop, eq-eqb, eqb-true, false, fold, get_or, get_or-set_other, get_or-set_same, if◌then◌else◌, inl, inr, length, length-append, length-set, length-take, lt-ltb, ltb-false, ltb-true, map, min, mul-le-mul_right, nat_lt, option_to_list, refl, replicate, rules, set, slice_get, slice_index_or, subst, suc, suc-mul, sym, take, true, w64, zero, ℕ, ℤ, ◌&&◌, ◌*◌, ◌++◌, ◌+◌, ◌-◌, ◌<◌, ◌==◌, ◌^◌, ◌↔◌, ◌∙◌, ◌∷◌, ◌≡◌, ◌≢◌, ◌≤◌, ◌⊎◌}
pub use Rattle.std.proofs.lemmas.List.FromFn.{length-range_with_len}
pub use Rattle.std.proofs.lemmas.List.Sums.{fold-append}
pub use Rattle.std.proofs.lemmas.Option.{slice_get_past}
pub use Rattle.std.specs.Vec.{with_item}
pub use Rattle.std.specs.declared.collections.VecDeque.{VecDeque}
pub use Rattle.sig_lists.proofs.Joined.{get_before, get_last, get_pushed}
pub use Rattle.sig_lists.proofs.Ranges.{in_range, within_range}
pub use Rattle.sig_base.specs.Places.{no_place, packed}
pub use Rattle.sig_text.specs.Sink.{Joins, TookPrefix-longer, TookPrefix-then}
pub use Rattle.sig_text.specs.declared.sink.WriteFault.{WriteFault}
pub use Rattle.sig_model.specs.Cores.{Core as ModelCore}
pub use Rattle.sig_schedule_laws.proofs.Bounds.{bounded_behind, bounded_events}
pub use Rattle.sig_schedule_laws.proofs.Coded.{step_coded}
pub use Rattle.sig_schedule_laws.proofs.Common.{Act, Actor, AllChange, AreFlowsFor, AtLimit, Cause, Collect, Commit, Commits, Do, Ended, Event, Fails, Faults, Given, Gives, Goes, HasEnd, Instant, Instruction, IsAccepted, IsEnabled, IsEnd, IsFinished, IsOnReference, IsReference, Kernel, LinkInfo, Look, NamesWithin, Op, Outcome, Place, PlanView, Puts, Reaction, Receive, Report, Send, Step, StepKind, Stopped, Takes, Trace, Turn, acted, after, and_from, and_parts, at_most_or, carried, cases_eq, cases_order, cause_of, code_of, contains_at, ended_at, fitting, flat_map-append, get_map, guard_holds, instructions_of, is_before, items_on, length-replicate, lesser, looked, map_get, moved_on, next_place, numbers_of, one_reader, one_writer, opening, opening_actor, operated, operations_in, or_cases, or_left, or_right, outcome, output_text, outputs_of, plan_operations, position_of, range_with_len, reaction_in, reactions_of, reactions_text, received, seen_at, seen_lines, set_here, slice_get-get_or, slice_get_within, some_at, some_reference, step_instruction, step_names, stepped, take_first, turn, turn_at, turn_by, turn_of_op, turn_with, turned, with_actor, with_items, word_before}
pub use Rattle.sig_schedule_laws.proofs.Enabled.{after_enabled, some_enabled}
pub use Rattle.sig_schedule_laws.proofs.Finished.{after_begins, after_has_end}
pub use Rattle.sig_schedule_laws.proofs.Interleavings.{after_on}
pub use Rattle.sig_schedule_laws.proofs.Least.{some_least}
pub use Rattle.sig_schedule_laws.proofs.Lists.{put_elsewhere, put_here, set_get}
pub use Rattle.sig_schedule_laws.proofs.Moved.{moved_cases}
pub use Rattle.sig_schedule_laws.proofs.Texts.{text_is}
pub use Rattle.sig_flow.specs.OutputLines.{LinesInFront}
pub use Rattle.sig_step.specs.Acting.{MayDo, MayUse}
pub use Rattle.sig_step.specs.LinkEnds.{AllStay, FoundEmpty, FoundFull, LinkQueue, OthersStay, Pushed, asked_to_pop}
pub use Rattle.sig_step.specs.States.{last_reaction}
pub use Rattle.sig_step.specs.declared.answer.Acted.{Acted}
pub use Rattle.sig_step.specs.declared.answer.Acted.TheVariants.{AtLimit as AtTheLimit, Done, Empty, Failed, Full, Stopped as HasStopped}
pub use Rattle.sig_step.specs.declared.state.ClusterState.{ClusterState}
pub use Rattle.sig_step.proofs.Common.{Acts, Asked, IsStateOf, Nothing, Popped, Queues, QueuesGoOn, TookPrefix, actor_of, err_from_is_err_and, get_set_other, instant_of, length-map, longest_lines, place_of, same_Some, slice_get_read, to_z-of_z}
pub use Rattle.sig_interleaving.specs.Cores.{Happened, IsActorState, IsCore, IsReached, IsSameRun, IsWord, IsWordOf, Keeps, LeavesLess, Shows, TellsChange, TookMore, given_of, left_at, left_from, left_in, one_to_end}
pub use Rattle.sig_interleaving.specs.Finishing.{HasEnded, IsEndOf, IsStill, LeadsTo, LeadsWithin, Led, TookBehind, TookRest, after_of, instants_by, instants_of}
pub use Rattle.sig_interleaving.specs.Lists.{AreEmpty, queue_in, queues_of}
pub use Rattle.sig_interleaving.specs.Schedules.{AreBounded, BeginsTheText, GoesOn, HasTheEnd, HoldsOf, InEachRun, KeepsToTheReference, RecordsNoneBefore, run_of}
pub use Rattle.sig_interleaving.specs.Telling.{length_in}
pub use Rattle.sig_interleaving.specs.declared.lists.Lists.{Lists}
pub use Rattle.sig_interleaving.specs.declared.state.Core.{Core}
pub use Rattle.sig_interleaving.specs.inner.Acting.{CommitsAs, CommitsBy, IsStepped, TakesTurnAt, changes}
pub use Rattle.sig_interleaving.specs.inner.First.{AllFirst, IsFirst, actor_in}
pub use Rattle.sig_interleaving.specs.inner.Making.{AreOpened, IsOpened}
pub use Rattle.sig_interleaving.specs.inner.Resting.{RestBelow, Rests, SeesNothing, Serves, Touches, left_behind, link_at, link_by, link_of, next_link}
