-- What the proofs of this crate cite of std, of the crates below and of its own specs, passed on from one place.
pub use Rattle.std.proofs.Common.{Bool, Contains, List, None, Option, Some, [], ap, append-nil, append_assoc, arith, cond, drop, eq-eqb, eqb-true, false, filter_map, flat_map, fold, if◌then◌else◌, inl, inr, is_some, length, length-append, length-take-le, ltb-false, ltb-true, map, nat_lt, ne_eqb, option_to_list, pos, refl, set, slice_get, slice_index_or, subst, suc, sym, take, take-append-drop, true, zero, ℕ, ℤ, ◌&&◌, ◌*◌, ◌++◌, ◌+◌, ◌-◌, ◌<◌, ◌==◌, ◌∙◌, ◌∷◌, ◌≡◌, ◌≤◌, ◌||◌, ◌⊎◌}
pub use Rattle.std.proofs.lemmas.List.{length-map}
pub use Rattle.std.proofs.lemmas.List.Elements.{filter_map-append}
pub use Rattle.sig_lists.proofs.Contained.{at_contained}
pub use Rattle.sig_lists.proofs.Fronts.{taken_get}
pub use Rattle.sig_lists.proofs.Places.{got, repeated, some_at}
pub use Rattle.sig_lists.proofs.SetItems.{get_set_other, get_set_same}
pub use Rattle.sig_base.specs.declared.signal.Signal.{Signal}
pub use Rattle.sig_base.specs.Traces.{flow_of}
pub use Rattle.sig_base.proofs.TraceLemmas.{flow_append, one_begins_the_other, prefix_of_prefix, same_by_prefixes}
pub use Rattle.sig_clock.specs.Conditions.{signal_id}
pub use Rattle.sig_plan.specs.declared.code.Step.{Step}
pub use Rattle.sig_plan.specs.declared.code.StepKind.{StepKind}
pub use Rattle.sig_plan.specs.declared.code.StepKind.TheVariants.{Collect, Commit, Do, Receive, Report, Send}
pub use Rattle.sig_plan.specs.declared.parts.LinkInfo.{LinkInfo}
pub use Rattle.sig_plan.proofs.Common.{CodeView, Instruction, get_map, map_get, op_id, report_link, under}
pub use Rattle.sig_plan.proofs.LinkEnds.{cluster_under, does_there}
pub use Rattle.sig_plan.proofs.WrittenSignals.{operations_written}
pub use Rattle.sig_model.specs.Actors.{code_of, ended_at, guard_holds, moved_on, next_place, opening_actor, truths_of}
pub use Rattle.sig_model.specs.Cores.{Core, Given, IsFinished, acted, after, is_before, items_on, looked, opening, stepped, take_first, turned, with_actor, with_items, word_before}
pub use Rattle.sig_model.specs.Operating.{Faults, Gives, Outcome, operated, outcome}
pub use Rattle.sig_model.specs.Progress.{HasReason, IsActorOn, IsFaulty, IsOnReference, IsWordOn, Yield, instant_at, names, op_of, sent_on, taken_from, yielded_before, yielded_in}
pub use Rattle.sig_model.specs.Turns.{AtLimit, Commits, Fails, Goes, Puts, Stopped, Takes, Turn, carried, item_of, reaction_in, received, turn, turn_at, turn_by, turn_of_op, turn_with}
pub use Rattle.sig_model.specs.declared.event.Event.{Event}
pub use Rattle.sig_model.specs.declared.event.Event.TheVariants.{Act, Look}
pub use Rattle.sig_doing_laws.proofs.CompiledLists.{compiled_operations, compiled_order}
pub use Rattle.sig_schedule_laws.proofs.Common.{Actor, AreFlowsFor, Compiled, Ended, Fitting, Instant, IsAccepted, IsEnd, IsKernelTrace, IsLongest, IsNext, IsOutcome, IsPrefixOf, IsReference, Memory, Op, OpId, Operation, Place, PlanView, Seen, SigId, Trace, at_most_or, cases_eq, compiled, fitting, longest_cut, operation_in, plan_operations, reference_begins, seen_at, signal_same, slice_get_within, some_reference, test}
pub use Rattle.sig_schedule_laws.proofs.Amid.{guard_known}
pub use Rattle.sig_schedule_laws.proofs.Beginnings.{report_contained}
pub use Rattle.sig_schedule_laws.proofs.Coded.{actor_coded}
pub use Rattle.sig_schedule_laws.proofs.Counts.{carried_before, counted, front_fewer}
pub use Rattle.sig_schedule_laws.proofs.Done.{done_once, stands_of, there_done}
pub use Rattle.sig_schedule_laws.proofs.Instants.{instants_before, instants_to, next_at, next_some}
pub use Rattle.sig_schedule_laws.proofs.Ends.{carried_at, nothing_from}
pub use Rattle.sig_schedule_laws.proofs.EndsOfLinks.{reader_end, writer_end}
pub use Rattle.sig_schedule_laws.proofs.EventsOnReference.{stepped_on}
pub use Rattle.sig_schedule_laws.proofs.Inputs.{done_by}
pub use Rattle.sig_schedule_laws.proofs.Lists.{joined_same, none_chosen, one_chosen}
pub use Rattle.sig_schedule_laws.proofs.Interleavings.{after_on}
pub use Rattle.sig_schedule_laws.proofs.Moved.{chosen_of, moved_cases, yields_moved}
pub use Rattle.sig_schedule_laws.proofs.NextOnReference.{behind_is, done_chosen, kind_chosen, outcome_is, passed_chosen}
pub use Rattle.sig_schedule_laws.proofs.Opening.{opening_on}
pub use Rattle.sig_schedule_laws.proofs.ReferenceEnd.{none_before, trace_is}
pub use Rattle.sig_schedule_laws.proofs.Steps.{DoesStep, does_once, instruction_step, op_done}
pub use Rattle.sig_output_laws.specs.Outputs.{IsWriter, put_at, put_at_event, put_by, put_by_actor, put_from, put_in_turn, put_out, value_of}
