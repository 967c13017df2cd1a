-- What the proofs of this crate cite of std, of the crates below and of its own specs, passed on from one place.
pub use Rattle.std.proofs.Common.{All, Bool, Contains, List, None, Option, Some, [], ap, append-nil, append_assoc, arith, cond, drop, eq-eqb, eqb-true, false, filter_map, flat_map, fold, get_or, get_or-set_other, get_or-set_same, if◌then◌else◌, inl, inr, is_some, length, length-append, length-drop, length-set, length-take, length-take-le, lt-ltb, ltb-false, ltb-true, map, mul-add, nat_lt, ne_eqb, not, option_and_then, option_to_list, pos, refl, replicate, set, slice_get, slice_index, subst, suc, suc-mul, sym, take, take-append-drop, take_all, take_at, true, unwrap_or, zero, ℕ, ℤ, ◌&&◌, ◌*◌, ◌++◌, ◌+◌, ◌-◌, ◌/◌, ◌<◌, ◌==◌, ◌||◌, ◌∙◌, ◌∷◌, ◌≡◌, ◌≤◌, ◌⊎◌}
pub use Rattle.std.proofs.lemmas.Bool.{and_from, and_left, and_right, false_from_ne_true, or_cases, or_left, or_right}
pub use Rattle.std.proofs.lemmas.List.{append_cancel_left, length-replicate, map_push, same_from_push, take-append-le}
pub use Rattle.std.proofs.lemmas.List.Concat.{flat_map-append}
pub use Rattle.std.proofs.lemmas.List.Elements.{filter_map-append}
pub use Rattle.std.proofs.lemmas.Nat.{div-mul-add, mul-le}
pub use Rattle.sig_lists.proofs.Fronts.{get_taken, taken_get}
pub use Rattle.sig_lists.proofs.Places.{repeated}
pub use Rattle.sig_lists.proofs.SetItems.{set_here}
pub use Rattle.sig_lists.proofs.Truths.{both_ways}
pub use Rattle.sig_plan.specs.declared.code.Slot.{Slot}
pub use Rattle.sig_plan.specs.declared.code.Step.{Step}
pub use Rattle.sig_plan.specs.declared.code.StepKind.{StepKind}
pub use Rattle.sig_plan.specs.declared.code.StepKind.TheVariants.{Collect, Commit, Do, Receive, Report, Send}
pub use Rattle.sig_plan.specs.declared.parts.LinkInfo.{LinkInfo}
pub use Rattle.sig_plan.proofs.Common.{CarriesFrom, CodeView, Contains-append_cases, Depends, HasBefore, HasGuard, ImpliesSlot, Instruction, IsFor, IsLastBelow, IsOutput, IsRefOf, IsStepOf, NamesWithin, PartsView, StandsAt, and_parts, at_end, at_number, cases_lt, cases_order, cluster_at, cluster_of, collects, commits, cons_option, contains_cons, contains_later, contains_none, does, enumerate_from, get_map, instructions_of, is_present, is_signal, links_of, links_to, map-append, map_get, mapped_from, of_slot, op_id, over_order, receives, ref_depends, report_link, report_links, reports, reports_of, sends, under, unguarded}
pub use Rattle.sig_plan.proofs.Counts.{one_of, tally_append, tally_cons, tally_none}
pub use Rattle.sig_plan.proofs.Holdings.{step_has_conditions, step_has_outputs, step_has_reads, step_has_sent}
pub use Rattle.sig_plan.proofs.InstructionsOfActors.{instruction_for}
pub use Rattle.sig_plan.proofs.LinkEnds.{carrying_ends, cluster_under, does_there, ends_within, one_reader, one_writer, paired, report_paired, reports_there, writer_cluster}
pub use Rattle.sig_plan.proofs.NamedInSteps.{step_instruction, step_names, step_slot}
pub use Rattle.sig_plan.proofs.Positions.{positions_rise}
pub use Rattle.sig_plan.proofs.Slotted.{guard_alone, guard_held}
pub use Rattle.sig_plan.proofs.WrittenSignals.{operations_written}
pub use Rattle.sig_model.specs.Actors.{code_of, ended_at, guard_holds, moved_on, next_place, no_code, position_of, slot_holds}
pub use Rattle.sig_model.specs.Cores.{Core, Given, IsEnabled, IsFinished, acted, after, cause_at, cause_in, cause_of, cause_of_op, is_before, items_on, lesser, looked, op_at, opening, reactions_text, stepped, take_first, turned, with_actor, with_items, word_before}
pub use Rattle.sig_model.specs.Operating.{Outcome}
pub use Rattle.sig_model.specs.Progress.{HasReason, IsActorOn, IsFaulty, IsLinkOn, IsOnReference, IsWordOn, Yield, fills, input_of, instant_at, is_filled, names, reached_by, reactions_of, read_at, read_by, register_before, sent_on, stored_at, stored_by, taken_from, target_of_op, yielded_before, yielded_in}
pub use Rattle.sig_model.specs.Runnable.{IsRunnable, IsThere}
pub use Rattle.sig_model.specs.Turns.{AtLimit, Commits, Fails, Goes, Puts, Reaction, Stopped, Takes, Turn, carried, item_of, received, turn, turn_at, turn_by, turn_of_op, turn_with}
pub use Rattle.sig_model.specs.declared.event.Event.{Event}
pub use Rattle.sig_model.specs.declared.event.Event.TheVariants.{Act, Look}
pub use Rattle.sig_meaning_laws.proofs.Common.{Place, any_passes_from_place, depends_agree, list_any, no_registers, not_true, plan_operations, stands_somewhere}
pub use Rattle.sig_meaning_laws.proofs.Longest.{longest_cut}
pub use Rattle.sig_meaning_laws.proofs.Outcomes.{reference_outcome}
pub use Rattle.sig_meaning_laws.proofs.References.{reference_begins, reference_front, reference_last, some_reference}
pub use Rattle.sig_meaning_laws.proofs.Uniqueness.{end_at_first, one_end}
pub use Rattle.sig_meaning_laws.proofs.Values.{where_some}
pub use Rattle.sig_doing_laws.proofs.CommittedInstant.{store_stands}
pub use Rattle.sig_doing_laws.proofs.Common.{Actor, All-cons, All-contains, All-nil, AreFlowsFor, Cause, Compiled, Compute, Computes, Contains-append_right, Default, Delay, DelayRead, Ended, EqId, Equation, Exhausted, Faults, Fitting, Form, Fun, Gives, HasFault, Instant, IsAccepted, IsAt, IsClean, IsEnd, IsFirstFault, IsKernelTrace, IsLongest, IsNext, IsOutcome, IsPrefixOf, IsReference, IsValid, Keeps, KeepsTo, Kernel, Left, Limit, Meets, Memory, Needs, Op, OpId, OpKind, Operation, Overflow, PlanView, Precedes, Presence, Read, Registers, Right, Seen, SigId, Speaks, StopsBefore, Store, Sync, Trace, When, WhenConst, Writes, ZeroDivisor, abstraction_of, at_contained, at_most_or, bounds_without_faults, cases_eq, clean, compiled, computed, computed_at, computed_by, computed_for, contains_at, contains_head, defined_by, divides_by_zero, each_operation, equation_id, first_cause, first_in, fitting, flow_count, flow_more, flow_of, form_for, form_in, function_of, get_or-map-range_with_len, got, has_64_bits, has_form, have_map, initial_in, instant_text, is_true, kept_order, last_of, length-map-range_with_len, needed_earlier, next_in, next_of, none_where, numbers_of, of_each, one_either, one_place, only, opening_actor, operand_in, operated, operation_in, operations_in, operations_of, outcome, outcome_by, output_text, outputs_of, own_keeps, own_present, own_speaks, own_written, place_at, range_with_len, reaction_in, read_of, remembered, remembers, same_operands, seen_at, seen_lines, signal_id, signals_of, slice_get-get_or, slice_get_within, some_at, stands_once, store_of, stored, stores_of, taken_by, tally, target_of, test, truth_at, truths_of, with_at, with_signal, without, writes_of, writing, written_below, written_by_one, written_present}
pub use Rattle.sig_doing_laws.proofs.DefinedOnce.{defined_local, defined_once, initial_is, one_memory, same_equation}
pub use Rattle.sig_doing_laws.proofs.Lines.{dropped_at, same_lines}
pub use Rattle.sig_doing_laws.proofs.Operated.{gives_bounded, one_longer}
pub use Rattle.sig_doing_laws.proofs.ReferenceInstant.{delayed_below, one_storing}
pub use Rattle.sig_schedule_laws.specs.Changes.{AllChange, all_gone, gone_by, steps_in}
pub use Rattle.sig_schedule_laws.specs.Endings.{HasEnd, IsNotBefore}
pub use Rattle.sig_schedule_laws.specs.Soundness.{IsPast, IsSound, IsSoundActor}
pub use Rattle.sig_doing_laws.proofs.CompiledLists.{compiled_operations, compiled_order}
pub use Rattle.sig_plan.proofs.Lists.{signal_same}
