-- What is left to be met where each class and each boolean is its own unknown is a kernel's relation.
use Rattle.sig_rel.proofs.Common.{◌≡◌, ◌<◌, ℕ, Bool, true, false, List, length, get_or, None, Some, Ok, sym, ap, ◌∙◌, subst, arith, if◌then◌else◌, list_all, eq-eqb, ext_get_or, length-map-range_with_len, Agree, truth_of, StoreView, test, Ref, IsValid, Equation, Kernel, IsReaction, Reaction, status_at, AreLeast, turned, AreOwnColumns, AreUnknowns, IsRelation, is_boolean, reaction_in, is_met, Values, has, value_status, Makes, LieWithin, itself, SpanColumns, truth_at, values_at, Truth, Unknowns, Columns}
use Rattle.sig_rel.proofs.ChosenTruths.{length_in}
use Rattle.sig_rel.proofs.ClassLemmas.{least_own, least_within}
use Rattle.sig_rel.proofs.Makings.{makes_spans}
use Rattle.sig_rel.proofs.OwnLemmas.{class_unknown}
use Rattle.sig_rel.proofs.OwnSpans.{own_columns_plain, own_columns_span_over}
use Rattle.sig_rel.proofs.SeenReactions.{status_told}
use Rattle.sig_rel.proofs.UsedLemmas.{there_used, used_among, used_there}
use Rattle.sig_rel.proofs.ValueReactions.{reaction, reaction_at, reaction_met, values_react}

module _ (kernel : Kernel) (valid : IsValid kernel) (least : List ℕ) (are_least : AreLeast kernel least) (count : ℕ) (unknowns : Unknowns) (are : AreUnknowns kernel count unknowns.present.items unknowns.truth.items)
    (lie : LieWithin kernel unknowns) (s t : StoreView) (columns : Columns) (own : AreOwnColumns s.nodes least unknowns columns) where
  abbrev present : List ℕ
  present = unknowns.present.items

  plain : (truths : List Bool) (signal : ℕ) → is_boolean kernel signal ≡ false → test s.nodes (truth_at columns signal) truths ≡ true
  plain truths signal other = own_columns_plain kernel least are_least count unknowns are lie s.nodes columns own signal other truths

  -- what the columns are at truths of the unknowns, as a reaction
  abbrev seen : List Bool → Reaction
  seen truths = reaction kernel valid least are_least (values_at s.nodes columns truths) (plain truths)

  module _ (truths : List Bool) where
    abbrev values : Values
    values = values_at s.nodes columns truths

    -- a signal is present where the unknown of its class is true
    own_presence : (x : ℕ) → x < length kernel.signals → has least values x ≡ truth_of truths (get_or present x 0)
    own_presence x lt =
        let within = least_within kernel least are_least x lt in
        let below : get_or least x 0 < length present = let long = are.presences in omega (arith, within, long) in
        let variable = class_unknown s.nodes least unknowns columns own (get_or least x 0) below (eq-eqb (get_or least (get_or least x 0) 0) (get_or least x 0) (least_own kernel least are_least x lt)) in
        variable.function truths
        ∙ ap (truth_of truths) ((are.classes (get_or least x 0) x within lt).1 (turned x (get_or least x 0) (are_least.same x lt)))

    own_status : (x : ℕ) → x < length kernel.signals → value_status least values x ≡ status_at (reaction_in truths present unknowns.truth.items) x
    own_status x lt =
        let lp : x < length present = let long = are.presences in omega (arith, lt, long) in
        let lq : x < length unknowns.truth.items = let long = are.truths in omega (arith, lt, long) in
        let truth = own.all (Truth x) in
        (λ j. if own_presence x lt j then Some (truth.function truths j) else None)
        ∙ sym (status_told truths present unknowns.truth.items x lp lq)

    -- the columns are the reaction that the truths are
    own_reaction : seen truths ≡ reaction_in truths present unknowns.truth.items
    own_reaction =
        let size : length unknowns.truth.items ≡ length present = are.truths ∙ sym are.presences in
        let left = length-map-range_with_len (value_status least values) 0 (length kernel.signals) in
        let right = length_in truths present unknowns.truth.items size in
        ext_get_or None (seen truths) (reaction_in truths present unknowns.truth.items) (left ∙ sym are.presences ∙ sym right)
        (λ x lt.
        let below : x < length kernel.signals = omega (arith, lt, left) in
        reaction_at kernel valid least are_least values (plain truths) x below ∙ own_status x below)

  pub is_relation : (calls : ℕ) (whole : Ref) → Makes calls (SpanColumns s.nodes columns) s t itself (Ok whole)
      → Agree (test t.nodes whole) (λ truths. list_all (λ (equation : Equation). is_met kernel.signals least (values_at s.nodes columns truths) equation.form) kernel.equations)
      → IsRelation kernel count t.nodes (record { whole = whole; present = unknowns.present.items; truth = unknowns.truth.items })
  is_relation calls whole made value = record {
    unknowns = are;
    held = made.held.0;
    spans = λ v d.
        let vs = used_among unknowns.present.items unknowns.truth.items in
        let spans = makes_spans calls (SpanColumns s.nodes columns) s t itself whole made vs
        (own_columns_span_over kernel least are_least count unknowns are lie s.nodes columns own vs (used_there unknowns.present.items unknowns.truth.items)) in
        there_used unknowns.present.items unknowns.truth.items v (spans.0 v d);
    reactions = λ truths. (
      λ holds. subst (IsReaction kernel) (own_reaction truths) (values_react kernel valid least are_least (values_at s.nodes columns truths) (plain truths) (sym (value truths) ∙ holds)),
      λ is. value truths ∙ reaction_met kernel valid least are_least (values_at s.nodes columns truths) (plain truths) (subst (IsReaction kernel) (sym (own_reaction truths)) is),
    );
  }
