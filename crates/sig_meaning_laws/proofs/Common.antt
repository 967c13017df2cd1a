-- What the proofs of this crate cite of std, of the crates below and of its own specs, passed on from one place.
pub use Rattle.std.proofs.Common.{All, Bool, Contains, List, None, Option, Some, [], ap, append-nil, append_assoc, arith, cond, eqb-true, false, get_or, inl, inr, int_eq, int_le, int_lt, is_some, length, length-append, length-take, lt-ltb, map, nat_lt, neg_ℤ, negsuc, not, option_to_list, pos, refl, replicate, slice_get, slice_index, subst, suc, sym, take, true, unwrap_or, zero, zip, ℕ, ℤ, ◌&&◌, ◌++◌, ◌+◌, ◌<ℤ◌, ◌<◌, ◌==◌, ◌||◌, ◌∙◌, ◌∷◌, ◌≡◌, ◌≢◌, ◌≤ℤ◌, ◌≤◌, ◌⊎◌}
pub use Rattle.std.proofs.Math.Bool.{or-true}
pub use Rattle.std.proofs.Math.Nat.{div-zero}
pub use Rattle.std.proofs.lemmas.Int.{ints}
pub use Rattle.std.proofs.lemmas.Map.Keys.{any_passes_from_place}
pub use Rattle.std.specs.Prelude.{⊤}
pub use Rattle.sig_lists.proofs.Fronts.{no_more}
pub use Rattle.sig_lists.proofs.Places.{got}
pub use Rattle.sig_lists.proofs.Truths.{not_true}
pub use Rattle.sig_base.specs.Functions.{Difference, Greater, GreaterEqual, Less, LessEqual, MayDivide, Negative, Product, Quotient, Remainder, Sum, operand_count}
pub use Rattle.sig_base.specs.Traces.{Fits, IsLongest, NoneSilent}
pub use Rattle.sig_base.specs.declared.ids.Kind.TheVariants.{Event as AnEvent}
pub use Rattle.sig_base.specs.declared.place.Place.{Place}
pub use Rattle.sig_base.proofs.TraceLemmas.{fits_reduced, prefix_fits, prefix_length, prefix_speaks, speaks}
pub use Rattle.sig_kernel.specs.KernelTraces.{or_else}
pub use Rattle.sig_kernel.proofs.Common.{AreFlowsFor, Bounded, IsKernelTrace, IsPrefixOf, IsReaction, IsTraceIn, Span, Trace, Unbounded, at_element, fits_by_test, flow_append, flow_of, has_64_bits, inputs_of, is_silent, one_longest, reduce, remembered, silent_at}
pub use Rattle.sig_kernel.proofs.RangeLemmas.{wide_trace}
pub use Rattle.sig_kernel.proofs.TraceLemmas.{comes_from, goes_on, no_instants, prefix_trace, reduced_trace}
pub use Rattle.sig_kernel.proofs.ValueLemmas.{few_constants, flow_values, remembered_value, sampled_value}
pub use Rattle.sig_dd.proofs.Walks.{depends_agree}
pub use Rattle.sig_clock.specs.Conditions.{freed, is_number}
pub use Rattle.sig_clock.specs.Reactions.{IsReaction as IsAbstract, compares, is_silent as is_silent_reaction, or_else as status_or_else}
pub use Rattle.sig_clock.proofs.AbstractLemmas.{abstract_presence, abstract_speaks, abstract_status, at, boolean_row, equality_rows, function_met, handed_row, kind_bit, like, merged_rows, of_kind, one_operand, sort_of, status_by, truth_is, two_operands, where_rows}
pub use Rattle.sig_clock.proofs.Common.{Add, AllByRecursion, AnInteger, And, AreAbsent, AreInOrder, AreOfKinds, Boolean, Decides-int_eq, Div, Eq, Equal, FunOp, Function, Ge, Gives, Gt, HaveValues, Id, Identity, Instant, Integer, IsFunction, IsOfKind, IsValue, Kind, Le, Lt, Meets, Memory, Mod, Mul, Ne, Neg, Not, NotEqual, Or, Range, Seen, Sort, Sub, Tells, Truth, Xor, abstraction_of, constant_truth, defines_well, form_fits, frees, function_of, function_rows, get_or-map-range_with_len, is_boolean_kind, is_condition, is_free, is_kind, is_signal, keeps_to_one, kind_at, kind_fits, kind_is, kind_of, length-map-range_with_len, list_any, operand_is, operand_truth, operands_are, or-false, same_status, seen_at, status_of, target_fits, truth_function, truth_of_status, truth_of_value, where_present}
pub use Rattle.sig_plan.specs.declared.ended.Cause.{Cause}
pub use Rattle.sig_plan.specs.declared.ended.Cause.TheVariants.{Exhausted, Limit, Overflow, ZeroDivisor}
pub use Rattle.sig_plan.specs.declared.ended.Ended.{Ended}
pub use Rattle.sig_plan.specs.declared.op.Op.{Op}
pub use Rattle.sig_plan.specs.declared.op.OpKind.{OpKind}
pub use Rattle.sig_plan.specs.declared.op.OpKind.TheVariants.{Compute, DelayRead, Left, Read, Right, Store}
pub use Rattle.sig_plan.proofs.Accepted.{plan_operations}
pub use Rattle.sig_plan.proofs.Common.{All-cons, All-contains, All-nil, Allows, Const, Contains-append_left, Contains-append_right, Default, Delay, Depends, EqId, Equation, Event, Form, Fun, HasOperations, Holds, IsAccepted, IsCompiledOrder, IsValid, KeepsTo, Kernel, Needs, Node, Operand, Operation, PlanView, Precedes, Presence, Reaction, Sig, SigId, Signal, Speaks, Status, Sync, When, WhenConst, Writes, and_parts, are_statuses, at_contained, cases_eq, contains_at, contains_head, contains_later, eqb-false, equation_id, false≢true, form_within, function_truth, get_or_default, has_truth, is_below, is_present, is_status_of, is_with, length-map, list_all, meets, numbers_of, of_each, operand_within, operands_of, operation_in, operations_in, operations_of, range_with_len, read_of, same_truth, signal_id, signals_of, slice_get-get_or, slice_get_within, some_at, some_reaction, status_at, store_of, stores_of, test, truth_of, truths_are_same, where_true, without, writes_of, writing}
pub use Rattle.sig_plan.proofs.Done.{present_written, read_present, written_by_one, written_present}
pub use Rattle.sig_plan.proofs.EachOperation.{each_operation, first_below, only, operands_below, second_below, target_below}
pub use Rattle.sig_plan.proofs.Earlier.{guards_alone, needed_earlier, read_earlier}
pub use Rattle.sig_plan.proofs.Indices.{written_below}
pub use Rattle.sig_plan.proofs.Orders.{stands_once, stands_somewhere}
pub use Rattle.sig_model.specs.Actors.{Actor, Registers, is_true, no_registers, truths_of, value_in, with_at, with_signal}
pub use Rattle.sig_model.specs.Causes.{AgreeSoFar, Computes, GoesOn, HasFault, IsEnd, IsFirstCause, IsNamedCause, IsPastEnd, Meets as MeetsFault, MeetsAt, place_at}
pub use Rattle.sig_model.specs.Operating.{Faults, bounded, computed, computed_at, computed_by, computed_for, first_in, memory_of, next_of, operand_in, outcome, outcome_by}
pub use Rattle.sig_model.specs.References.{IsReference, extended, extended_by, filler}
pub use Rattle.sig_model.specs.Results.{divides_by_zero, is_one, result_of, truth_value}
pub use Rattle.sig_meaning_laws.specs.Ends.{IsCut, IsWithinBounds, StopsBefore}
pub use Rattle.sig_meaning_laws.specs.Faults.{IsFaultAt, IsFirstFault}
pub use Rattle.sig_meaning_laws.specs.Outcomes.{IsAt, IsOutcome}
pub use Rattle.sig_meaning_laws.specs.Reactions.{HasNextValues, HasOneReaction, IsNext, RemembersValues}
pub use Rattle.sig_plan.proofs.Lists.{signal_same}
