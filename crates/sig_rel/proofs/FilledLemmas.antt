-- Columns with the proposals of a triangular kernel's conditions, before and after the others are written.
use Rattle.sig_rel.proofs.Common.{◌≡◌, ◌<◌, ◌≤◌, ◌+◌, ◌⊎◌, inl, inr, ℕ, Bool, true, false, List, length, Some, refl, sym, ap, ◌∙◌, subst, arith, Contains, slice_get, range_with_len, and_parts, cases_Bool, cases_eq, false≢true, get_or_past, SigId, IsValid, Kernel, is_condition, is_free, at_contained, contains_at, truth_of, Holds, IsRefOf, Keeps, Spans, StoreView, test, Node, Ref, IsRefOf-kept, Spans-of, variable_depends, IsCut, AreFilled, AreFresh, IsProposal, IsProposalBelow, is_boolean, AreValues, presence_by, ArePlain, HoldColumns, IsWhollyWritten, SpanColumns, present_at, ref_at, truth_at, values_at, AreConditions, IsTriangleOf, IsTriangle, AreVariables, IsVariableAt, Element, Presence, Truth, Triangle, Known, Columns}
use Rattle.sig_rel.proofs.ElementLemmas.{held_by, span_by}
use Rattle.sig_rel.proofs.Makings.{constant_spans}
use Rattle.sig_rel.proofs.OnceDefined.{got_within}
use Rattle.sig_rel.proofs.PlacingLemmas.{apart_kinds, counted_form, governed_class, truth_is}
use Rattle.sig_rel.proofs.UnknownLemmas.{boolean_within}
use Rattle.sig_rel.proofs.UsedLemmas.{in_range}
use Rattle.sig_rel.proofs.TriangleOrders.{top_uncounted}
use Rattle.sig_rel.proofs.VariableLemmas.{variables_then}

same_id : (c d : SigId) → c.0 ≡ d.0 → c ≡ d
same_id c d same = (λ j. record { 0 = same j })

-- ---- the truths of the first conditions were made variables, and one more

pub one_proposed : (s t : StoreView) → Keeps s t → (first before after : Columns) (conditions : List SigId) (k : ℕ) (condition : SigId) → slice_get conditions k ≡ Some condition
    → ((i j : ℕ) (c : SigId) → slice_get conditions i ≡ Some c → slice_get conditions j ≡ Some c → i ≡ j)
    → AreVariables s.nodes (IsProposalBelow conditions k) first before → AreVariables t.nodes (IsVariableAt (Truth condition.0) (Some k)) before after → AreVariables t.nodes (IsProposalBelow conditions (k + 1)) first after
one_proposed s t kept first before after conditions k condition at once are is =
    variables_then s t kept (IsProposalBelow conditions k) (IsVariableAt (Truth condition.0) (Some k)) (IsProposalBelow conditions (k + 1)) first before after are is split
    (λ e v is. (let lt = is.0 in omega (arith, lt), is.1))
    (λ e v is. let same : k ≡ v = let both : Some k ≡ Some v = is.1 in cc in (omega (arith, same), (condition, ap (slice_get conditions) (sym same) ∙ at, is.0))) where
      split : (e : Element) (v : ℕ) → IsProposalBelow conditions (k + 1) e v → (IsProposalBelow conditions k e v × ((w : ℕ) → IsVariableAt (Truth condition.0) (Some k) e w → ⊥)) ⊎ IsVariableAt (Truth condition.0) (Some k) e v
      split e v is = elim (cases_eq v k) [
        | inl same ↦
            let both : Some is.1.0 ≡ Some condition = sym is.1.1 ∙ ap (slice_get conditions) same ∙ at in
            let one : is.1.0 ≡ condition = cc in
            inr (is.1.2 ∙ ap (λ (c : SigId). Truth c.0) one, ap Some (sym same))
        | inr apart ↦ inl (
          (let lt = is.0 in omega (arith, lt, apart), is.1),
          λ w there.
              let one = same_id is.1.0 condition (truth_is is.1.0.0 condition.0 (sym is.1.2 ∙ there.0)) in
              apart (once v k condition (is.1.1 ∙ ap Some one) at),
        )
      ]

pub all_proposed : (nodes : List Node) (first after : Columns) (conditions : List SigId) (k : ℕ) → length conditions ≤ k → AreVariables nodes (IsProposalBelow conditions k) first after → AreVariables nodes (IsProposal conditions) first after
all_proposed nodes first after conditions k le are = record {
  always = are.always;
  count = are.count;
  own = λ e v is. are.own e v (let lt = got_within conditions v is.0 is.1 in omega (arith, lt, le), is);
  others = λ e never. are.others e (λ v is. never v is.1);
}

-- ---- the columns before the others are written

module _ (kernel : Kernel) (conditions : List SigId) (are : AreConditions kernel conditions) where
  pub condition_within : (i : ℕ) (c : SigId) → slice_get conditions i ≡ Some c → c.0 < length kernel.signals
  condition_within i c at = boolean_within kernel c.0 (and_parts (is_boolean kernel c.0) (is_free kernel c.0) ((are.all c).0 (contains_at conditions i c at))).0

  module _ (r s : StoreView) (kept : Keeps r s) (first columns : Columns) (fresh : AreFresh r.nodes (length kernel.signals) first) (proposed : AreVariables s.nodes (IsProposal conditions) first columns) where
    always_true : IsRefOf s.nodes (λ truths. true) columns.always
    always_true = subst (IsRefOf s.nodes (λ truths. true)) (sym proposed.always) (IsRefOf-kept r s kept (λ truths. true) first.always fresh.always)

    pub presence_always : (class : ℕ) → present_at columns class ≡ columns.always
    presence_always class = proposed.others (Presence class) (λ v is. apart_kinds class is.0.0 is.2) ∙ fresh.all (Presence class) ∙ sym proposed.always

    truth_always : (signal : ℕ) → is_condition kernel signal ≡ false → truth_at columns signal ≡ columns.always
    truth_always signal other =
        proposed.others (Truth signal) (λ v is. false≢true (sym other ∙ ap (is_condition kernel) (truth_is signal is.0.0 is.2) ∙ (are.all is.0).0 (contains_at conditions v is.0 is.1)))
        ∙ fresh.all (Truth signal) ∙ sym proposed.always

    -- each element is a proposal, or true
    by_element : (P : Ref → Type 0) → ((i : ℕ) (c : SigId) → slice_get conditions i ≡ Some c → P (truth_at columns c.0)) → P columns.always → (e : Element) → P (ref_at columns e)
    by_element P each rest (Presence class) = subst P (sym (presence_always class)) rest
    by_element P each rest (Truth signal) = elim (cases_Bool (is_condition kernel signal)) [
      | inl is ↦ let there = (are.all (record { 0 = signal })).1 is in each there.0 (record { 0 = signal }) (at_contained conditions (record { 0 = signal }) there)
      | inr other ↦ subst P (sym (truth_always signal other)) rest
    ]

    proposal : (i : ℕ) (c : SigId) → slice_get conditions i ≡ Some c → IsRefOf s.nodes (λ truths. truth_of truths i) (truth_at columns c.0)
    proposal i c at = proposed.own (Truth c.0) i (c, at, refl)

    pub proposed_hold : HoldColumns s.nodes columns
    proposed_hold = held_by s.nodes columns (by_element (Holds s.nodes) (λ i c at. let is = proposal i c at in is.holds) always_true.holds)

    pub proposed_span : SpanColumns s.nodes columns (range_with_len 0 (length conditions))
    proposed_span =
        span_by s.nodes columns (range_with_len 0 (length conditions)) (by_element (λ (x : Ref). Spans s.nodes x (range_with_len 0 (length conditions)))
        (λ i c at. Spans-of s.nodes (λ truths. truth_of truths i) (truth_at columns c.0) (proposal i c at) (range_with_len 0 (length conditions))
        (λ v d. subst (Contains (range_with_len 0 (length conditions))) (sym (variable_depends i v d)) (in_range 0 (length conditions) i (omega arith) (let lt = got_within conditions i c at in omega (arith, lt)))))
        (constant_spans s.nodes true columns.always (range_with_len 0 (length conditions)) always_true))

    pub proposed_count : length columns.rows.items ≡ length kernel.signals
    proposed_count = proposed.count ∙ fresh.rows

    not_condition : (signal : ℕ) → is_boolean kernel signal ≡ false → (b : Bool) → is_condition kernel signal ≡ b → is_condition kernel signal ≡ false
    not_condition signal other false is = is
    not_condition signal other true is = absurd (false≢true (sym other ∙ (and_parts (is_boolean kernel signal) (is_free kernel signal) is).0))

    pub proposed_plain : ArePlain kernel s.nodes columns
    proposed_plain signal other truths =
        ap (λ (x : Ref). test s.nodes x truths) (truth_always signal (not_condition signal other (is_condition kernel signal) refl)) ∙ always_true.function truths

    -- ---- and after

    module _ (valid : IsValid kernel) (triangle : Triangle) (is : IsTriangleOf kernel triangle) (t : StoreView) (keeps : Keeps s t) (last : Columns)
        (written : IsWhollyWritten kernel triangle s.nodes t.nodes columns last) where
      abbrev least : List ℕ
      least = triangle.rules.least.items

      last_always : last.always ≡ columns.always
      last_always =
          let n : ℕ = length kernel.signals in
          let beyond : length triangle.rules.counted.items ≤ n = (let e = is.are_rules.countings in omega (arith, e)) in
          let all : Known = record { present = last.always; truth = last.always } in
          sym (ap (λ (row : Known). row.present) (get_or_past last.rows.items n all (let e = written.count in omega (arith, e))))
          ∙ written.cut (Presence n) (λ number form given. let lt = got_within triangle.rules.counted.items n (Some number) given.0 in omega (arith, lt, beyond))
          ∙ presence_always n

      true_after : IsRefOf t.nodes (λ truths. true) columns.always
      true_after = IsRefOf-kept s t keeps (λ truths. true) columns.always always_true

      values : (tri : IsTriangle kernel least triangle.list.items) (truths : List Bool) → AreValues kernel least triangle.rules.counted.items triangle.rules.defined.items conditions tri.top truths (values_at t.nodes last truths)
      values tri truths = record {
        highest = ap (λ (x : Ref). test t.nodes x truths) (written.cut (Presence tri.top) (top_uncounted kernel valid triangle.rules is.are_rules triangle.list.items tri) ∙ presence_always tri.top) ∙ true_after.function truths;
        classes = λ class number form there at.
            let counted = counted_form kernel valid triangle.rules is.are_rules class number form there at in
            let class_is = governed_class kernel valid triangle.rules.least.items is.are_rules.are_least class number form at counted.0.governs in
            written.written (Presence class) number form ((tri.classes class).1 class_is) (there, at) truths (presence_by least (values_at t.nodes last truths) form) refl;
        proposals = λ i c at.
            let after = IsRefOf-kept s t keeps (λ truths. truth_of truths i) (truth_at columns c.0) (proposal i c at) in
            ap (λ (x : Ref). test t.nodes x truths) (written.cut (Truth c.0) (undefined i c at)) ∙ after.function truths;
        truths = λ signal number form b there at gives. written.written (Truth signal) number form ((tri.truths signal).1 (is.are_rules.is_defined signal number there).3) (there, at) truths b gives;
        plain = λ signal other. written.plain signal other truths;
      } where
        undefined : (i : ℕ) (c : SigId) → slice_get conditions i ≡ Some c → IsCut kernel triangle.rules (Truth c.0)
        undefined i c at number form given = false≢true (sym (is.are_rules.is_defined c.0 number given.0).4 ∙ (are.all c).0 (contains_at conditions i c at))

      pub are_filled : AreFilled kernel triangle conditions t.nodes last
      are_filled = record {
        held = written.held;
        span = written.spans (range_with_len 0 (length conditions)) proposed_span;
        always = subst (IsRefOf t.nodes (λ truths. true)) (sym last_always) true_after;
        keeps = values;
      }
