-- What the proofs of this crate cite of std, of the crates below and of its own specs, passed on from one place.
pub use Rattle.std.proofs.Common.{All, Bool, Contains, List, None, Option, Some, [], ap, append-nil, append_assoc, arith, cond, count_by, drop, eq-eqb, eqb-true, false, get_or, inl, inr, is_some, length, length-append, length-drop, length-take, map, option_to_list, pos, refl, slice_get, slice_index, subst, suc, sym, true, zero, ℕ, ℤ, ◌++◌, ◌+◌, ◌<◌, ◌==◌, ◌∙◌, ◌∷◌, ◌≡◌, ◌≤◌, ◌⊎◌}
pub use Rattle.sig_base.proofs.TraceLemmas.{reduced}
pub use Rattle.sig_kernel.specs.KernelTraces.{last_of}
pub use Rattle.sig_kernel.specs.OutputText.{instant_text, output_text, outputs_of, seen_line, seen_lines}
pub use Rattle.sig_kernel.proofs.TextLemmas.{text_prefix}
pub use Rattle.sig_plan.specs.Order.{Keeps}
pub use Rattle.sig_plan.proofs.Common.{OpId, defines, is_target, target_of, target_within}
pub use Rattle.sig_plan.proofs.Counts.{counted, fold_tally, one_place, tally}
pub use Rattle.sig_plan.proofs.Orders.{kept_order}
pub use Rattle.sig_model.specs.Actors.{initial_by, initial_in, opening_actor}
pub use Rattle.sig_model.specs.Causes.{Meets}
pub use Rattle.sig_model.specs.Operating.{Gives, defined_by, operated, remembers, taken_by}
pub use Rattle.sig_model.specs.Results.{has_64_bits}
pub use Rattle.sig_model.specs.Turns.{reaction_in}
pub use Rattle.sig_meaning_laws.proofs.Accepted.{compiled}
pub use Rattle.sig_meaning_laws.proofs.Agreement.{Compiled, condition_signal, own_keeps, own_present, own_speaks, own_written, truth_at}
pub use Rattle.sig_meaning_laws.proofs.Common.{Actor, All-cons, All-contains, All-nil, AreFlowsFor, Bounded, Cause, Compute, Computes, Contains-append_left, Contains-append_right, Default, Delay, DelayRead, Ended, EqId, Equation, Event, Exhausted, Faults, Form, Fun, Function, HasFault, Instant, IsAccepted, IsAt, IsEnd, IsFaultAt, IsFirstFault, IsKernelTrace, IsLongest, IsNamedCause, IsNext, IsOutcome, IsPrefixOf, IsReference, IsValid, IsWithinBounds, KeepsTo, Kernel, Left, Limit, Memory, Needs, Node, Op, OpKind, Operation, Overflow, PlanView, Precedes, Presence, Reaction, Read, Registers, Right, Seen, SigId, Signal, Speaks, StopsBefore, Store, Sync, Trace, When, WhenConst, Writes, ZeroDivisor, abstraction_of, at_contained, bounded, cases_eq, computed, computed_at, computed_by, computed_for, contains_at, contains_head, divides_by_zero, each_operation, equation_id, first_below, first_in, flow_of, form_within, function_of, get_or-map-range_with_len, got, guards_alone, is_true, length-map, length-map-range_with_len, needed_earlier, next_of, no_instants, numbers_of, of_each, only, operand_in, operands_below, operation_in, operations_in, operations_of, outcome, outcome_by, place_at, prefix_length, range_with_len, read_earlier, read_of, remembered, result_of, seen_at, signal_id, signals_of, slice_get-get_or, slice_get_within, some_at, stands_once, store_of, stores_of, target_below, test, truths_of, with_at, with_signal, without, writes_of, writing, written_below, written_by_one, written_present}
pub use Rattle.sig_meaning_laws.proofs.EndOfRun.{fitting}
pub use Rattle.sig_meaning_laws.proofs.Equations.{among_each}
pub use Rattle.sig_meaning_laws.proofs.FirstFaultIsNamed.{first_cause}
pub use Rattle.sig_meaning_laws.proofs.FirstFaults.{one_either}
pub use Rattle.sig_meaning_laws.proofs.Flows.{flow_more, next_in}
pub use Rattle.sig_meaning_laws.proofs.Longest.{Decided, IsClean, clean, clean_more, cut_longest}
pub use Rattle.sig_meaning_laws.proofs.NamedCause.{follows, meets_at, met_place, own_presence, without_faults}
pub use Rattle.sig_meaning_laws.proofs.Numbers.{at_most_or}
pub use Rattle.sig_meaning_laws.proofs.OrderedOperations.{place_of}
pub use Rattle.sig_meaning_laws.proofs.Outcomes.{is_outcome}
pub use Rattle.sig_meaning_laws.proofs.References.{Fitting, flow_count, memory_values, next_values, reference_more}
pub use Rattle.sig_meaning_laws.proofs.StoredValues.{stored}
pub use Rattle.sig_meaning_laws.proofs.Values.{form_for, form_in, has_form, have_map, none_where, same_operands}
pub use Rattle.sig_meaning_laws.proofs.WithinBounds.{bounds_without_faults}
pub use Rattle.sig_doing_laws.specs.Commits.{IsCommitted}
pub use Rattle.sig_doing_laws.specs.Doing.{AreAlike, IsAmid, instant_behind, stepped}
pub use Rattle.sig_doing_laws.specs.Places.{IsDone, IsWrittenBefore, StandsAt, StandsBefore}
pub use Rattle.sig_doing_laws.proofs.CompiledLists.{compiled_operations, compiled_order}
pub use Rattle.sig_plan.proofs.Lists.{signal_same}
