-- What the proofs of this crate cite of std, of the crates below and of its own specs, passed on from one place.
pub use Rattle.std.proofs.Common.{AllPairs, Bool, Contains, Err, IfErr, IfSome, IsErrAnd, IsTrue, List, MatchOption, None, Ok, Option, Result, Some, [], ap, append_assoc, arith, bytes_eq, codes, cond, count_by, decimal, drop, eq-eqb, eqb, ext_get_or, false, filter, get_or, get_or-append-add, get_or-drop, get_or-take, inl, inr, int_eq, is_some, le-ltb, length, length-append, length-drop, length-take-le, lt-ltb, ltb-true, map, mul-le-mul_right, ne_eqb, not, option_to_list, pos, refl, slice_get, slice_index, slice_index_or, subst, suc, sum_by, sym, take, take_all, take_at, true, zero, ℕ, ℤ, ◌&&◌, ◌*◌, ◌++◌, ◌+◌, ◌-◌, ◌<◌, ◌==◌, ◌^◌, ◌||◌, ◌↔◌, ◌∙◌, ◌∷◌, ◌≡◌, ◌≤◌, ◌⊎◌, option_map}
pub use Rattle.std.proofs.Math.Decide.{dec_le, map_dec}
pub use Rattle.std.proofs.lemmas.Bool.{false_from_ne_true, true_from_ne_false}
pub use Rattle.std.proofs.lemmas.Fmt.{decimal_injective}
pub use Rattle.std.proofs.Math.Seq.{drop-append-add, drop-append_seam, take-append-add, take-append_seam}
pub use Rattle.std.proofs.lemmas.List.{append-nil, append_cancel_left, get_or-map, length-take, map-append, take-append-le}
pub use Rattle.std.proofs.lemmas.List.Elements.{Contains-get_or, Contains-push, Contains-push_cases}
pub use Rattle.std.proofs.lemmas.List.Folds.{list_all-append}
pub use Rattle.std.proofs.lemmas.List.Sums.{sum_by-append}
pub use Rattle.std.proofs.lemmas.Slice.Eq.{bytes_eq-Decides}
unfoldable pub use Rattle.std.specs.List.{IsDistinct}
pub use Rattle.sig_lists.proofs.Decided.{dec_both, dec_implies, dec_some, dec_text, dec_then, dec_truth}
pub use Rattle.sig_lists.proofs.Each.{all_back, all_both, all_front}
pub use Rattle.sig_lists.proofs.Fronts.{get_taken}
pub use Rattle.sig_lists.proofs.Joined.{get_pushed}
pub use Rattle.sig_lists.proofs.Places.{map_get, value_there}
pub use Rattle.sig_lists.proofs.Ranges.{in_range}
pub use Rattle.sig_lists.proofs.Searched.{Searched, all_options, all_truths, dec_each, first_below, searched_below, searched_lists}
pub use Rattle.sig_base.specs.Traces.{Bounded, Fits, IsValue}
pub use Rattle.sig_base.specs.declared.ids.Kind.TheVariants.{Event}
pub use Rattle.sig_base.specs.declared.limits.TheConstants.{SIGNALS}
pub use Rattle.sig_kernel.specs.KernelTraces.{where_true}
pub use Rattle.sig_kernel.specs.OutputText.{instant_text, output_text, outputs_of, seen_line, seen_lines}
pub use Rattle.sig_kernel.specs.Validity.{AreFlowsFor, HasParts}
pub use Rattle.sig_kernel.proofs.Common.{AllPass-from_list_all, AreAbsent, AreOfKinds, AreWellMade, Decides-int_eq, DefinesEach, Function, Gives, Instant, IsDistinct-cons, IsDistinct-head, IsDistinct-tail, IsFunction, IsOfKind, IsPrefixOf, IsTraceIn, Meets, Memory, Range, Row, Seen, Span, Trace, flow_of, function_of, inputs_of, is_kind, keeps_to_one, kind_fits, last_of, list_all-from_AllPass, remembered, rows_of, seen_at, silent_at, target_fits}
pub use Rattle.sig_kernel.proofs.TraceLemmas.{Runs, runs_from_trace, trace_from_runs}
pub use Rattle.sig_clock.specs.ClockRefusals.{IsAlive}
pub use Rattle.sig_clock.proofs.Common.{HaveValues, IsDead, IsPossible, Truth, is_integer, is_integer_kind}
pub use Rattle.sig_rel.specs.declared.answer.RelAnswer.TheVariants.{Budget as SystemBudget, OutOfMemory as NoMemory}
pub use Rattle.sig_rel.proofs.Common.{AllByRecursion, AreConditions, AreLeast, Boolean, Budget, Const, DdAnswer, Default, Delay, Eq, Equation, Form, Fun, FunOp, Holds, Holds-kept, IsFromStore, IsOver, IsReaction, IsRefOf, IsRefOf-kept, IsRefused, IsRefusedFor, IsStore, IsSystem, IsTriangular, IsUnknownCount, IsValid, Keeps, Keeps-trans, KeepsToShare, Kernel, Kind, Ne, Node, Operand, OutOfMemory, Reaction, Ref, SameClock, Share, Share-then, Sig, SigId, Signal, Sort, Spans, Spans-kept, Speaks, Status, StoreView, Sync, SystemView, When, WhenConst, absent_in_silence, allowance, and_from, and_parts, are_statuses, at_contained, cases_Bool, cases_eq, cases_lt, compares, constant_truth, contains_at, contains_cons, contains_head, contains_later, contains_none, defines, false≢true, form_fits, form_within, function_truth, get_or-map-range_with_len, get_or_from_slice_get, has_truth, is_below, is_boolean, is_present, is_signal, is_silent, is_status_of, is_target, is_with, kind_at, kind_of, length-filter, length-map, length-map-range_with_len, list_all, list_any, meets, operand_is, operand_truth, operand_within, operands_are, operands_of, or_cases, or_else, or_right, present_together, range_with_len, reading, same_status, same_truth, slice_get-get_or, slice_get_within, status_at, statuses_are_same, sum_by-cons, take_more, target_of, target_within, test, truth_function, truth_of_status, truths_are_same, where_present}
pub use Rattle.sig_solve.proofs.AskedLemmas.{over_two}
pub use Rattle.sig_solve.proofs.Common.{AreClassesInOrder, Contains-append_left, HasNoRoot, HasRoot, Implies, IsLeast, IsRoot, IsSignal, Overlap, RelAnswer, all_pairs_push, all_statuses, both_true, calls_of, contains_mapped, filter_same, get_or_append_left, get_or_default, in_filter, itself, leaders_of, mapped_from, of_filter, range_drops, range_keeps, rest_of_share, share_of, taken_get, within_range}
pub use Rattle.sig_solve.proofs.ConditionLists.{conditions_by_number}
pub use Rattle.sig_solve.proofs.CountLemmas.{calls_fit, halves, least_one}
pub use Rattle.sig_solve.proofs.FrameLemmas.{least_below, least_twice}
pub use Rattle.sig_solve.proofs.RootLemmas.{ordered_leaders, present_within}
pub use Rattle.sig_solve.proofs.StoreLemmas.{more_calls, out_of_memory, refused}
pub use Rattle.sig_solve.proofs.SystemLemmas.{in_variables, presence_over, presence_read, solution_newer, solution_older, system_kept, variables_count}
pub use Rattle.sig_solve.proofs.TriangleLemmas.{first_is_root}
pub use Rattle.sig_pace.specs.Answers.{IsFromSystem}
pub use Rattle.sig_pace.specs.MaximalClocks.{AreMaximalClocks, AreOfOneClock, IsBelow, IsLeastMaximal, IsMaximal}
pub use Rattle.sig_pace.specs.Paced.{GetsPaces, IsPaced, IsTaken, NeedsNoPaces, NeedsPaces, marked_from, marks_from, others_together, pace_name, paced_kernel, paces_from, place_of, together_from}
pub use Rattle.sig_pace.specs.Refusals.{HasNoPaceRoom, HasTooManySignals, IsNameTaken, KeepsToPaceShare, KeepsToSystemShare}
pub use Rattle.sig_pace.specs.Renumbering.{moved, renumbered, renumbered_equation, renumbered_form, renumbered_operand}
pub use Rattle.sig_pace.specs.Restriction.{FitPaces, HasPaces, HasTracesOf, paced_seen, restricted, without_paces}
pub use Rattle.sig_pace.specs.declared.answer.PaceAnswer.{PaceAnswer}
pub use Rattle.sig_pace.specs.declared.asked.Asked.{Asked}
pub use Rattle.sig_pace.specs.declared.candidates.Candidate.{Candidate}
pub use Rattle.sig_pace.specs.inner.Asked.{AreCandidates, HoldsPresences, IsAskedIn, IsCandidate, presence_in, reactions_in, variables_of}
pub use Rattle.sig_pace.specs.inner.Leaders.{AreIncreasing, AreLeaders}
pub use Rattle.sig_pace.specs.inner.Names.{FindsNamed, NoneNamedBelow, is_named}
pub use Rattle.sig_pace.specs.inner.Tops.{AddsTop, AreByNumber, AreMaxima, AreNotBelow, AreTops, IsBelowCandidate, IsBelowOne, IsCover, signals_of}
pub use Rattle.sig_dd.proofs.Functions.{test-kept}
pub use Rattle.sig_rel.proofs.GeneralSystems.{someone}
pub use Rattle.sig_rel.proofs.ValueReactions.{statuses_fit}
