-- What the proofs of this crate cite of std, of the crates below and of its own specs, passed on from one place.
pub use Rattle.std.proofs.Common.{All, AllPairs, Bool, Contains, Decides, Err, IfErr, IfOk, IsErrAnd, IsTrue, List, None, Ok, Option, Result, Some, [], ap, arith, cond, count_by, drop, drop-cons, eq-eqb, eqb, eqb-true, false, filter, get_or, get_or-set_other, get_or-set_same, if◌then◌else◌, inl, inr, is_some, length, length-append, length-set, length-take, lt-ltb, ltb, ltb-true, map, mul-le-mul_left, mul-le-mul_right, ne_eqb, not, option_map, pow_mono, refl, replicate, set, slice_get, slice_index, slice_index_or, subst, suc, sym, take, take_all, true, zero, ℕ, ◌&&◌, ◌*◌, ◌++◌, ◌+◌, ◌-◌, ◌<◌, ◌==◌, ◌^◌, ◌↔◌, ◌∙◌, ◌∷◌, ◌≡◌, ◌≢◌, ◌≤◌, ◌⊎◌}
pub use Rattle.std.proofs.lemmas.Bool.Decides.{Decides-eqb}
pub use Rattle.std.proofs.lemmas.List.Elements.{Contains-append_cases, Contains-append_right}
pub use Rattle.std.proofs.lemmas.List.Kept.{AllPairs-filter}
pub use Rattle.std.proofs.lemmas.List.Quantifiers.{all_pairs_push}
pub use Rattle.std.proofs.lemmas.Slice.Eq.{slice_eq-Decides}
pub use Rattle.sig_lists.proofs.Contained.{contains_last, contains_mapped, mapped_from, one_passes, passes_one}
pub use Rattle.sig_lists.proofs.Filtered.{filter_same, in_filter, of_filter}
pub use Rattle.sig_lists.proofs.Fronts.{taken_get}
pub use Rattle.sig_lists.proofs.Places.{get_map}
pub use Rattle.sig_lists.proofs.Ranges.{range_drops, range_keeps, within_range}
pub use Rattle.sig_lists.proofs.SetItems.{get_set_same}
pub use Rattle.sig_lists.proofs.Truths.{both_true, not_true}
unfoldable pub use Rattle.sig_dd.specs.Diagram.{StartsFrom}
pub use Rattle.sig_dd.specs.Nodes.{Overlap}
pub use Rattle.sig_dd.proofs.CallerLemmas.{one_reference}
pub use Rattle.sig_dd.proofs.CallsInARow.{Share-none, refusal_is}
pub use Rattle.sig_dd.proofs.Canonical.{proper, same_ref}
pub use Rattle.sig_dd.proofs.Common.{AgreeBut, Choice, Constant, Contains-append_left, Diagram, Implies, IsProduct, diagram, get_before, get_last, get_or_append_left, get_or_read, length_push, value_at}
pub use Rattle.sig_dd.proofs.Dependence.{ref_depends}
pub use Rattle.sig_dd.proofs.RelationalProducts.{product_forgets, product_spanned}
pub use Rattle.sig_dd.proofs.Trees.{IsProper, equal_or_differ, one_diagram, truth_of-with_same, value_at-choice, value_at-chosen, value_at-earlier}
pub use Rattle.sig_dd.proofs.Walks.{depends_agree}
pub use Rattle.sig_clock.specs.ClockRefusals.{AreSolved, HasNoRoot, HasRoot}
pub use Rattle.sig_clock.specs.Clocks.{AreClocks, ClocksView, IsLeastOf, guard_of}
pub use Rattle.sig_clock.specs.Layers.{IsRoot, IsSignal}
pub use Rattle.sig_clock.proofs.Common.{AgreeOn, AreInOrder, EntersBy, HasClocks, HasLayer, IsClockFunction, IsDetermined, IsEarlier, IsFirstPinned, IsFree, IsLeast, IsMissingRoot, IsOpen, IsPinned, IsUnsolved, cases_order, drop-length, get_or_default, itself}
pub use Rattle.sig_clock.proofs.LayerLemmas.{enters_stays, one_layer}
pub use Rattle.sig_clock.proofs.ProposalLemmas.{absent_makes_none, one_presence, some_reaction}
pub use Rattle.sig_rel.specs.Triangles.{AreClassesInOrder}
pub use Rattle.sig_rel.specs.declared.answer.RelAnswer.{RelAnswer}
pub use Rattle.sig_rel.specs.declared.answer.RelAnswer.TheVariants.{Budget as RelationBudget, OutOfMemory as NoRelation}
pub use Rattle.sig_rel.specs.declared.elements.Element.{Element}
pub use Rattle.sig_rel.specs.declared.elements.Element.TheVariants.{Presence, Truth}
pub use Rattle.sig_rel.proofs.ChosenTruths.{all_statuses}
pub use Rattle.sig_rel.proofs.Common.{Agree-kept, Allows, AreConditions, AreLeast, Budget, DdAnswer, Default, Delay, Depends, Depends-of_one, Depends-of_two, Equation, Event, Form, Fun, Governs, Holds, Holds-kept, IfOk-weaker, IsFreeSystem, IsOver, IsReaction, IsRefOf, IsRefusedFor, IsSolution, IsStore, IsSystem, IsTriangle, IsTriangular, IsUnknownCount, IsValid, IsVariable, Keeps, Keeps-itself, Keeps-trans, KeepsTo, KeepsToShare, KeepsToTriangularShare, Kernel, MayStand, Node, OutOfMemory, Reaction, Ref, SameClock, Share, Share-then, Share-wider, SigId, Signal, Spans, Speaks, Status, StoreView, Sync, SystemView, When, WhenConst, absent_in_silence, allowance, and_parts, at_contained, cases_Bool, cases_eq, cases_lt, classes_among, conditions_of, contains_at, contains_cons, contains_head, contains_later, contains_none, count_by-le-length, false≢true, form_at, form_within, get_or-range_with_len, get_or-replicate, get_or_from_slice_get, is_boolean, is_boolean_kind, is_condition, is_free, is_present, is_silent, joined, kind_at, kind_of, length-filter, length-map, length-range_with_len, length-replicate, list_any, meets, operand_signals, or_else, present_together, proposed, range_with_len, reading, refusal, signal_id, slice_get-get_or, slice_get_within, status_at, status_read, statuses_are_same, statuses_read, sum_by-cons, take_more, test, triangular_share_of, truth_of, truth_of-with_other, truth_of_status, turned, where_true, with_truth, written}
pub use Rattle.sig_rel.proofs.FreeSystems.{conditions_few}
pub use Rattle.sig_rel.proofs.UsedLemmas.{in_range, one_least}
pub use Rattle.sig_solve.specs.Frames.{IsAmong, IsFrame, leaders_of}
pub use Rattle.sig_solve.specs.Refusals.{HasNoRoom, IsFromRelation, IsFromStore, IsRefusalOf, IsSystemRoom, IsWithin, calls_of, rest_of_share, share_of, store_refusal}
pub use Rattle.sig_solve.specs.Walks.{Asks}
pub use Rattle.sig_solve.specs.declared.answer.ClockAnswer.{ClockAnswer}
pub use Rattle.sig_solve.specs.declared.answer.ClockAnswer.TheVariants.{Dead, MissingRoot, Pinned, Unsolved}
pub use Rattle.sig_solve.specs.declared.asked.Asked.{Asked}
pub use Rattle.sig_solve.specs.declared.awaiting.Guide.{Guide}
pub use Rattle.sig_solve.specs.declared.frame.Frame.{Frame}
pub use Rattle.sig_solve.specs.inner.Answers.{FindsPinned}
pub use Rattle.sig_solve.specs.inner.Asked.{AreHalves, ArePlaced, AreProposed, ForgetsAllBut, IsAskedIn, IsImage, IsMet, IsProposalOf, truth_at, variables_of}
pub use Rattle.sig_solve.specs.inner.Awaiting.{AreAwaited, IsApart, IsRest}
pub use Rattle.sig_solve.specs.inner.Classes.{AreClasses, AreFirsts, AreGuardsOf, AreMadeOf, IsPlace, Precedes, guard_at}
pub use Rattle.sig_solve.specs.inner.Free.{AreNeeds, IsFreeIn, is_unknown, is_unknown_to}
pub use Rattle.sig_solve.specs.inner.Guards.{AreGuards, IsGuard}
pub use Rattle.sig_solve.specs.inner.Orders.{IsFreeBy, IsPinnedBy, by_layer, of_layer}
pub use Rattle.sig_solve.specs.inner.Rounds.{AreEntered, AreIncreasing, ArePassed, AreRounds, AreSettled, IsOpenAnswer, has_entered, layer_in}
pub use Rattle.sig_dd.proofs.Functions.{test-kept}
pub use Rattle.sig_rel.proofs.GeneralSystems.{someone}
pub use Rattle.sig_rel.proofs.PlacingLemmas.{contains_more, among_more}
pub use Rattle.sig_rel.proofs.GivenLemmas.{conditions_within}
