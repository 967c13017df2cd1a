-- What the proofs of this crate cite of std, of the crates below and of its own specs, passed on from one place.
pub use Rattle.std.proofs.Common.{Bool, IfSome, IsTrue, List, None, Option, Some, [], ap, append-nil, append_assoc, arith, codes, drop, false, flat_map, fold, get_or, if◌then◌else◌, inl, inr, length, length-take, map, mul-le-mul_left, nat_lt, pos, refl, replicate, slice_get, subst, suc, sym, take, take-append-drop, take_at, true, unwrap_or, zero, ℕ, ℤ, ⊎_elim, ◌*◌, ◌++◌, ◌+◌, ◌-◌, ◌<◌, ◌∙◌, ◌∷◌, ◌≡◌, ◌≢◌, ◌≤◌, ◌⊎◌}
pub use Rattle.std.proofs.lemmas.List.{take-map}
pub use Rattle.std.proofs.lemmas.Option.{none-some}
pub use Rattle.std.specs.Prelude.{⊤}
pub use Rattle.sig_base.specs.declared.limits.TheConstants.{EVENTS}
pub use Rattle.sig_plan.specs.Alike.{AreAlike}
pub use Rattle.sig_plan.proofs.PlanOnce.{codes_alike, same_actors, same_conditions, same_links, same_operations}
pub use Rattle.sig_schedule_laws.proofs.Common.{Act, Actor, AreFlowsFor, AtLimit, CodeView, Collect, Commit, Commits, Compute, Core, DelayRead, Do, Ended, Event, Fails, Faults, Given, Gives, Goes, Instant, IsAccepted, IsEnd, IsOnReference, IsPrefixOf, IsReference, IsSound, IsValid, Kernel, Left, LinkInfo, Look, Op, OpKind, Operation, Place, PlanView, Puts, Read, Receive, Report, Right, Seen, Send, SigId, Slot, Step, StepKind, Stopped, Store, Takes, Trace, Turn, acted, after, append_cancel_left, carried, code_of, ended_at, fitting, get_map, guard_holds, item_of, items_on, looked, map-append, map_get, moved_on, next_place, no_code, one_end, opening, opening_actor, operated, operation_in, operations_in, outcome, outcome_by, output_text, position_of, reaction_in, reactions_of, reactions_text, received, seen_at, slice_get_within, slot_holds, some_at, some_reference, stepped, take_first, truths_of, turn, turn_at, turn_by, turn_of_op, turn_with, turned, with_actor, with_items, word_before}
pub use Rattle.sig_schedule_laws.proofs.Finished.{reactions_begin}
pub use Rattle.sig_schedule_laws.proofs.Interleavings.{after_sound}
pub use Rattle.sig_deciding_laws.proofs.KernelRuns.{end_of_kernel}
pub use Rattle.sig_flow.specs.Events.{event_of}
pub use Rattle.sig_flow.specs.declared.answer.EventAnswer.{EventAnswer}
pub use Rattle.sig_flow.specs.declared.answer.EventAnswer.TheVariants.{BadEvent, TooMany}
pub use Rattle.sig_flow.specs.declared.event.FileEvent.{FileEvent}
pub use Rattle.sig_flow.proofs.Common.{AreEvents, IsFirstBadEvent, event_fault, event_judge, events_among, first_fault, lines_of}
pub use Rattle.sig_flow.proofs.FirstLemmas.{good_from_none, not_both, one_first}
pub use Rattle.sig_alone.specs.Runs.{IsWholeRest, TookSomeRest}
pub use Rattle.sig_alone.proofs.Rests.{rest_joined}
pub use Rattle.sig_interleaving.specs.Telling.{state_in}
pub use Rattle.sig_interleaving.specs.declared.answer.ActorState.{ActorState}
pub use Rattle.sig_interleaving.proofs.Common.{Happened, IsCore, IsEndOf, IsSameRun, Joins, Shows, TookBehind, TookMore, TookPrefix-longer, TookPrefix-then, TookRest, after_begins, after_on, fold-append, given_of, length-map, length_in, run_of, same_Some, text_is}
pub use Rattle.sig_interleaving.proofs.EventsToTheEnd.{Join, more_then, text_append}
pub use Rattle.sig_interleaving.proofs.RunningOut.{join_part}
pub use Rattle.sig_outcome.specs.Outcomes.{Bad}
pub use Rattle.sig_outcome.specs.Tasks.{begun_after}
pub use Rattle.sig_outcome.proofs.FoundFiles.{some_at_data}
pub use Rattle.sig_program.proofs.Common.{IfOk-weaker, IsPlanOf, OutOfMemory, Ref, some_plan, take_more}
pub use Rattle.sig_program.proofs.SomeVerdict.{HasVerdict, some_at_plan}
pub use Rattle.sig_text.specs.Counts.{Rose}
pub use Rattle.sig_text.specs.Sink.{TookPrefix}
pub use Rattle.sig_loaded.proofs.Common.{Absent, AreFlows, AreRefused, AtFile, AtFlows, AtLinks, Budget, Contents, Data, FindsAccepted, FindsFlows, Found, Good, HasCount, HoldFew, Holds, ITEMS, IfErr-weaker, IfSome_then, IsAcceptedAs, IsAcceptedKernel, IsDue, IsEnded, IsOfKernel, IsOwn, IsRunStatus, LacksMemory, Long, LongFile, LongImage, LongProgram, Missing, OneAtMost, Outcome, PROGRAM_BYTES, Performs, Program, Reaches, ReadFault, Refusal, RefusesFlows, RunComesTo, RunsTo, SaysLine, Settings, Stops, TooManyItems, TookPrefix-whole, Word, about_data, accepted_once, accepted_or_refused, at_file_ends, behind_data, end_line, end_status, err_from_is_err_and, first_from_some, inputs_of, kernel_end, later_count, later_own, links_once, long_file, long_program, name_where_there, one_at_data, one_at_program, one_kernel_end, outcome_of, performs_outcome, performs_refusal, plan_links, read_fit, refused, refused_data, refused_once, running, some_end, status_of, told, told_both, too_many_items, words_of, write_line}
pub use Rattle.sig_loaded.proofs.Complete.{behind_files, flows_either}
pub use Rattle.sig_loaded.proofs.OneRun.{flows_apart, no_flows_line, one_at_links, one_flows}
pub use Rattle.sig_loaded.proofs.Plans.{end_there, items_are}
pub use Rattle.sig_loaded.proofs.Statuses.{is_ended, no_six}
pub use Rattle.sig_play_command.specs.Complete.{CanPlay}
pub use Rattle.sig_play_command.specs.Plays.{HasPlay, IsAboutPlay, PlayComesTo, PlaysTo, WritesPlay, left_by, played, playing}
pub use Rattle.sig_play_command.specs.inner.EventFiles.{AtEvents, FindsEvents, IsAboutEvents, IsEventLine, RefusesEvents, bad_events, happens}
pub use Rattle.sig_play_command.specs.inner.Happening.{AllHappened, IsEndIn, IsRest, PartHappened, TookOf, TookPlay, behind}
pub use Rattle.sig_play_command.specs.inner.Standing.{committed_in, instants_before}
pub use Rattle.sig_play_command.specs.inner.StateLines.{actor_line, actor_pieces, lines_from, link_line, link_pieces, state_text, word_line}
