-- What the proofs of this crate cite of std, of the crates below and of its own specs, passed on from one place.
pub use Rattle.std.proofs.Common.{Bool, Contains, Err, IfErr, IfOk, IsErrAnd, IsTrue, List, MatchOption, None, Ok, Option, Result, Some, [], ap, arith, below_more, cond, count_by, eq-eqb, eqb, eqb-true, ext_get_or, false, filter, get_or, get_or-set_other, get_or-set_same, if◌then◌else◌, inl, inr, is_some, length, length-set, lt-ltb, ltb-true, map, mul-le-mul_left, mul-le-mul_right, nat_lt, not, option_map, position, pow-suc, pow_mono, pow_pos, refl, replicate, set, slice_get, slice_index, slice_index_or, slice_set, subst, suc, sym, take, take_all, true, zero, ℕ, ℤ, ◌&&◌, ◌*◌, ◌++◌, ◌+◌, ◌-◌, ◌<◌, ◌==◌, ◌^◌, ◌||◌, ◌∙◌, ◌∷◌, ◌≡◌, ◌≢◌, ◌≤◌, ◌⊎◌}
pub use Rattle.std.proofs.Math.Nat.{pow-le-pow_right}
pub use Rattle.std.proofs.lemmas.Bool.{and_from, cases_Bool, cond-true, not-true, or_cases, or_left, or_parts, or_right, or_from}
pub use Rattle.std.proofs.lemmas.List.{get_or-replicate, get_or_past, length-replicate, map_push, take-append-le, take_more}
pub use Rattle.std.proofs.lemmas.List.Folds.{list_all_more}
pub use Rattle.std.proofs.lemmas.List.FromFn.{get_or-range_with_len, length-range_with_len, map-range_with_len_more}
pub use Rattle.std.proofs.lemmas.List.Sums.{count_by-le-length, fails_before_first, length-filter, sum_by-cons, sum_by-set, sum_by-take-le, sum_by_more}
pub use Rattle.std.proofs.lemmas.Map.Steps.{length-le_from_distinct_below}
pub use Rattle.std.proofs.lemmas.Option.{slice_get-get_or as get_at, slice_get_past, slice_get_read, slice_get_within as get_within}
pub use Rattle.std.proofs.lemmas.Result.{IfOk-weaker, on_ok_weaker}
pub use Rattle.std.specs.List.{position_or_len}
unfoldable pub use Rattle.std.specs.List.{IsDistinct}
pub use Rattle.std.specs.Prelude.{⊤}
pub use Rattle.sig_base.specs.declared.ids.Kind.TheVariants.{Event as EventKind}
pub use Rattle.sig_kernel.specs.Table.{target_of}
pub use Rattle.sig_kernel.specs.Validity.{defines, is_target, target_within}
pub use Rattle.sig_kernel.specs.declared.equation.FunOp.TheVariants.{And, Not, Or, Xor}
pub use Rattle.sig_dd.specs.declared.answer.DdAnswer.{DdAnswer}
pub use Rattle.sig_dd.specs.declared.answer.DdAnswer.TheVariants.{Budget, OutOfMemory}
pub use Rattle.sig_dd.specs.declared.node.Node.{Node}
pub use Rattle.sig_dd.specs.declared.node.Ref.{Ref}
pub use Rattle.sig_dd.proofs.CallsInARow.{Share-then, Share-wider}
pub use Rattle.sig_dd.proofs.CallerLemmas.{Agree-kept, Depends-of_one, Depends-of_two, Holds-kept, IsRefOf-kept, Keeps-itself, Keeps-trans, Spans-kept, Spans-of}
pub use Rattle.sig_dd.proofs.Common.{Agree, Depends, HasAll, HoldAll, Holds, IsRefOf, IsRefused, IsStore, Keeps, Share, Shares, SpanAll, Spans, StoreView, allowance, cases_eq, cases_lt, get_or_from_slice_get, length-map, position-Some, refusal, slice_get-get_or, slice_get-map, slice_get_within, test}
pub use Rattle.sig_dd.proofs.Dependence.{choice_depends, variable_depends}
pub use Rattle.sig_dd.proofs.Trails.{Trail-begins, Trail-next}
pub use Rattle.sig_dd.proofs.Trees.{truth_of-with_other}
pub use Rattle.sig_clock.specs.Conditions.{conditions_of, freed, is_number}
pub use Rattle.sig_clock.specs.Reactions.{compares}
pub use Rattle.sig_clock.proofs.Common.{Add, AllByRecursion, Allows, AnInteger, AreLeast, Boolean, Const, Default, Delay, Div, Eq, Equation, Event, Form, Fun, FunOp, Ge, Gt, Id, Integer, IsReaction, IsValid, KeepsTo, Kernel, Kind, Le, Lt, Mod, Mul, Ne, Neg, Operand, Reaction, SameClock, Sig, SigId, Signal, Sort, Speaks, Status, Sub, Sync, When, WhenConst, and_parts, are_statuses, constant_truth, false≢true, form_fits, form_within, frees, function_truth, get_or-map-range_with_len, given, has_truth, is_below, is_boolean_kind, is_condition, is_free, is_present, is_signal, is_silent, is_status_of, is_with, joined, kind_at, kind_of, length-map-range_with_len, list_all, list_any, meets, operand_is, operand_truth, operand_within, operands_are, operands_of, or_else, range_with_len, related, same_status, same_truth, signal_id, signals_among, status_at, truth_function, truth_of, truth_of_status, turned, where_present, where_true, with_truth}
pub use Rattle.sig_lists.proofs.Contained.{at_contained, contains_at, contains_cons, contains_head, contains_later, contains_none, contains_last}
pub use Rattle.sig_lists.proofs.Places.{item_at, some_at}
pub use Rattle.sig_lists.proofs.Fronts.{written, taken_get, get_taken}
pub use Rattle.sig_clock.proofs.ReactionLemmas.{absent_in_silence, present_together, statuses_are_same, truths_are_same}
pub use Rattle.sig_rel.specs.Answers.{IsFromStore}
pub use Rattle.sig_rel.specs.inner.Elements.{IsCut, IsGiven, IsGivenBy, entry_of, signal_of, truths_read}
pub use Rattle.sig_rel.specs.inner.FreeColumns.{Adds, AreFilled, AreFresh, IsProposal, IsProposalBelow, IsSystemOf, truth_ref}
pub use Rattle.sig_rel.specs.inner.GeneralColumns.{AreSubstitutedColumns, IsSystemWith, numbers_of, substituting}
pub use Rattle.sig_rel.specs.inner.Numberings.{AreGiven, AreNumbers, HasNumbers, IsBoolean, IsOwn, Retains, given_at, next_after, number_of}
pub use Rattle.sig_rel.specs.inner.OwnColumns.{AreOwnColumns, IsUnknownWhere, classes_below, count_one, is_own, truths_below, unknown_of}
pub use Rattle.sig_rel.specs.Relations.{AreUnknowns, IsRelation, IsUnknownCount, IsUsed, RelationView, is_boolean, reaction_in, status_in, truth_in}
pub use Rattle.sig_rel.specs.inner.Residues.{IsOwnStatus, IsPresentFrom, IsSomePresent, is_met, left_refs}
pub use Rattle.sig_rel.specs.inner.Rules.{AreRules, AreValues, EntersAfter, HoldsAfter, StandsAfter, Values, has, operand_value, presence_by, truth_by_form, value_status}
pub use Rattle.sig_rel.specs.inner.Firsts.{AreCounted, AreFirsts, first_or, first_where, is_unexcused, is_unexcused_by, kept_by}
pub use Rattle.sig_rel.specs.inner.Schedules.{AreNamed, HasPlace, IsByTable, IsFoundAmong, IsOrderOfWriting, IsPlannedStep, IsSchedule, IsScheduling, IsStepBy, IsTaken, IsWhole, ReadsBefore, is_waiting, with_counted, with_defined}
pub use Rattle.sig_rel.specs.Shares.{IsRefusedFor, KeepsToShare, KeepsToTriangularShare, Leads, Makes, share_of, triangular_share_of}
pub use Rattle.sig_rel.specs.inner.Statuses.{AreUnknownsOf, LieWithin, itself, refs_of, status_by}
pub use Rattle.sig_rel.specs.inner.Substituted.{AreSubstituted, Fits, IsCutClass, IsCutTruth}
pub use Rattle.sig_rel.specs.inner.Substitutions.{ArePlain, AreWritten, Gives, GivesTruth, HoldColumns, IsPartlyWritten, IsSet, IsWhollyWritten, IsWritten, SpanColumns, given_by, no_ref, operand_at, present_at, ref_at, row_at, size_of, step_at, steps, truth_at, values_at}
pub use Rattle.sig_rel.specs.Systems.{AreConditions, IsFreeSystem, IsOver, IsSolution, IsSystem, IsVariable, SystemView, proposed, reading, status_read, statuses_read}
pub use Rattle.sig_rel.specs.inner.Tables.{AreMarks, AreRulesOf, IsBegun, IsFreshWithin, IsPlaced, IsStuck, IsTriangleOf, IsWithin, MayBePlaced, allows_top, counted_at, counted_for, counted_if, defined_for, equation_for, form_by, gives, governs, has_both, has_class, has_operand, has_operand_of, has_truth_of, has_whole, is_excused, is_left, is_numbered, is_ready, is_top_class, may_take, numbered_element, presence_ready, repeats, step_by, target_number, truth_ready, unmarked, with_class, with_truth_of}
pub use Rattle.sig_rel.specs.Triangles.{Governs, HasClasses, HasOperandOf, HasTruths, IsClass, IsCounted, IsTop, IsTriangle, IsTriangular, MayEnter, MayHold, MayStand, Repeats, classes_among, form_at, operand_signals, tested}
pub use Rattle.sig_rel.specs.inner.TruthFunctions.{truth_by, truth_given}
pub use Rattle.sig_rel.specs.inner.Variables.{AreVariables, IsVariableAt, IsVariableOf}
pub use Rattle.sig_rel.specs.declared.answer.RelAnswer.{RelAnswer}
pub use Rattle.sig_rel.specs.declared.elements.Element.{Element}
pub use Rattle.sig_rel.specs.declared.elements.Element.TheVariants.{Presence, Truth}
pub use Rattle.sig_rel.specs.declared.elements.Step.{Step}
pub use Rattle.sig_rel.specs.declared.general.Left.{Left}
pub use Rattle.sig_rel.specs.declared.numbering.Numbering.{Numbering}
pub use Rattle.sig_rel.specs.declared.numbering.Unknowns.{Unknowns}
pub use Rattle.sig_rel.specs.declared.placing.Placed.{Placed}
pub use Rattle.sig_rel.specs.declared.placing.Triangle.{Triangle}
pub use Rattle.sig_rel.specs.declared.rules.Rules.{Rules}
pub use Rattle.sig_rel.specs.declared.schedules.Schedule.{Schedule}
pub use Rattle.sig_rel.specs.declared.schedules.Scheduling.{Scheduling}
pub use Rattle.sig_rel.specs.declared.statuses.Known.{Known}
pub use Rattle.sig_rel.specs.declared.substitution.Columns.{Columns}
pub use Rattle.std.proofs.lemmas.Map.Keys.{any_passes_from_place}
pub use Rattle.sig_lists.proofs.Ranges.{within_range}
pub use Rattle.std.proofs.Math.Bool.{or_comm}
