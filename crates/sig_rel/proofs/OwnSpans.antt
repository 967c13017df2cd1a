-- Columns that are the unknowns of a kernel hold and span these, and take no more nodes than there are unknowns.
use Rattle.sig_rel.proofs.Common.{◌≡◌, ◌≤◌, ◌+◌, ◌-◌, ◌*◌, ◌^◌, inl, inr, ℕ, Bool, true, false, List, length, get_or, Option, None, Some, Result, refl, sym, ap, ◌∙◌, subst, arith, Contains, if◌then◌else◌, is_some, slice_get, slice_index, count_by, ◌==◌, range_with_len, mul-le-mul_left, pow-le-pow_right, cases_lt, false≢true, get_or_past, take_all, length-range_with_len, truth_of, IsRefOf, Spans, StoreView, allowance, DdAnswer, Node, Spans-of, variable_depends, Kernel, AreLeast, Adds, numbers_of, substituting, AreOwnColumns, classes_below, is_own, truths_below, unknown_of, AreUnknowns, IsUnknownCount, IsUsed, is_boolean, truth_in, LieWithin, ArePlain, HoldColumns, SpanColumns, ref_at, Element, Presence, Truth, Unknowns, Columns}
use Rattle.sig_rel.proofs.AddingLemmas.{adds_more}
use Rattle.sig_rel.proofs.ElementLemmas.{held_by, span_by}
use Rattle.sig_rel.proofs.Makings.{constant_spans}
use Rattle.sig_rel.proofs.Places.{count_given, found_there}
use Rattle.sig_rel.proofs.UsedLemmas.{in_range, one_least}

-- what is written, and a node for each unknown, are within the share
within_substituting : (own s q u p : ℕ) → own ≤ u → s ≤ 2 * q → p ≤ 2 ^ u → own + 3 * s * p ≤ u + 6 * q * 2 ^ u
within_substituting own s q u p few steps le =
    let a : 3 * s * p ≤ 3 * s * 2 ^ u = mul-le-mul_left (3 * s) le in
    let b : 2 ^ u * (3 * s) ≤ 2 ^ u * (6 * q) = mul-le-mul_left (2 ^ u) (omega (arith, steps)) in
    let e : 3 * s * 2 ^ u ≡ 2 ^ u * (3 * s) = omega arith in
    let f : 6 * q * 2 ^ u ≡ 2 ^ u * (6 * q) = omega arith in
    omega (arith, few, a, b, e, f)

module _ (kernel : Kernel) (least : List ℕ) (are : AreLeast kernel least) (count : ℕ) (unknowns : Unknowns) (is : AreUnknowns kernel count unknowns.present.items unknowns.truth.items) (lie : LieWithin kernel unknowns) where
  among : (v : ℕ) → IsUsed unknowns.present.items unknowns.truth.items v → Contains (numbers_of unknowns) v
  among v used =
      let within = lie.within v used in
      let order = lie.order in
      let below = within.1 in
      in_range unknowns.first (unknowns.end - unknowns.first) v within.0 (omega (arith, order, below))

  -- a node for each class and each boolean
  pub own_few : (u : ℕ) → IsUnknownCount kernel u → classes_below least (length least) + truths_below unknowns.truth.items (length unknowns.truth.items) ≤ u
  own_few u counts =
      let same = one_least kernel least counts.0 are counts.1 in
      let long : length least ≡ length kernel.signals = are.count in
      let a : classes_below least (length least) ≡ count_by (λ signal. slice_index counts.0 signal == signal) (range_with_len 0 (length kernel.signals)) =
      (λ j. count_by (is_own (same j)) (range_with_len 0 (long j))) in
      let b : truths_below unknowns.truth.items (length unknowns.truth.items) ≡ count_by is_some unknowns.truth.items =
      ap (count_by is_some) (take_all (length unknowns.truth.items) unknowns.truth.items (omega arith)) in
      let c = count_given (is_boolean kernel) unknowns.truth.items 0 (length kernel.signals) is.truths
      (λ k v at. let e : 0 + k ≡ k = omega arith in subst (λ m. is_boolean kernel m ≡ true) (sym e) (is.booleans k v at)) in
      let e = counts.2 in
      omega (arith, a, b, c, e)

  pub numbers_few : (u : ℕ) → IsUnknownCount kernel u → allowance (numbers_of unknowns) ≤ 2 ^ u
  numbers_few u counts =
      let few = lie.few u counts in
      let long = length-range_with_len unknowns.first (unknowns.end - unknowns.first) in
      let le : 2 ^ length (numbers_of unknowns) ≤ 2 ^ u = pow-le-pow_right (omega arith) (omega (arith, few, long)) in
      omega (arith, le)

  pub within_share_of_own : (s u : ℕ) → s ≤ 2 * length kernel.equations → IsUnknownCount kernel u
      → classes_below least (length least) + truths_below unknowns.truth.items (length unknowns.truth.items) + 3 * s * allowance (numbers_of unknowns) ≤ substituting kernel u
  within_share_of_own s u steps counts =
      within_substituting (classes_below least (length least) + truths_below unknowns.truth.items (length unknowns.truth.items)) s (length kernel.equations) u (allowance (numbers_of unknowns)) (own_few u counts) steps (numbers_few u counts)

  -- they are within what the writing of columns may add
  pub own_adds : (r s : StoreView) (result : Result (Unit {0}) DdAnswer) → Adds (classes_below least (length least) + truths_below unknowns.truth.items (length unknowns.truth.items)) r s result
      → (u : ℕ) → IsUnknownCount kernel u → Adds (substituting kernel u) r s result
  own_adds r s result adds u counts =
      let few = own_few u counts in
      adds_more (classes_below least (length least) + truths_below unknowns.truth.items (length unknowns.truth.items)) (substituting kernel u) r s result adds (omega (arith, few))

  module _ (nodes : List Node) (columns : Columns) (own : AreOwnColumns nodes least unknowns columns) where
    given : (signal v : ℕ) → get_or unknowns.truth.items signal None ≡ Some v → slice_get unknowns.truth.items signal ≡ Some (Some v)
    given signal v at = elim (cases_lt signal (length unknowns.truth.items)) [
      | inl lt ↦ found_there unknowns.truth.items signal v lt at
      | inr le ↦ absurd (let no : None ≡ Some v = sym (get_or_past unknowns.truth.items signal None le) ∙ at in cc)
    ]

    used : (e : Element) (v : ℕ) → unknown_of least unknowns e ≡ Some v → IsUsed unknowns.present.items unknowns.truth.items v
    used (Presence class) v is = by (is_own least class) is where
      by : (b : Bool) → (if b then slice_get unknowns.present.items class else None) ≡ Some v → IsUsed unknowns.present.items unknowns.truth.items v
      by true at = inl (class, at)
      by false at = absurd (let no : None ≡ Some v = at in cc)
    used (Truth signal) v is = inr (signal, given signal v is)

    pub own_columns_hold : HoldColumns nodes columns
    own_columns_hold = held_by nodes columns (λ e. let variable = own.all e in variable.holds)

    -- each element depends on its own unknown alone
    module _ (vs : List ℕ) (has : (v : ℕ) → IsUsed unknowns.present.items unknowns.truth.items v → Contains vs v) where
      spans_unknown : (e : Element) (o : Option ℕ) → unknown_of least unknowns e ≡ o → IsRefOf nodes (λ ts. truth_in ts o) (ref_at columns e) → Spans nodes (ref_at columns e) vs
      spans_unknown e None at value = constant_spans nodes true (ref_at columns e) vs value
      spans_unknown e (Some v) at value = Spans-of nodes (λ truths. truth_of truths v) (ref_at columns e) value vs (λ w d. subst (Contains vs) (sym (variable_depends v w d)) (has v (used e v at)))

      pub own_columns_span_over : SpanColumns nodes columns vs
      own_columns_span_over = span_by nodes columns vs (λ e. spans_unknown e (unknown_of least unknowns e) refl (own.all e))

    pub own_columns_span : SpanColumns nodes columns (numbers_of unknowns)
    own_columns_span = own_columns_span_over (numbers_of unknowns) among

    pub own_columns_count : length columns.rows.items ≡ length kernel.signals
    own_columns_count = own.count ∙ is.presences

    plain_truth : (signal : ℕ) (o : Option ℕ) → is_boolean kernel signal ≡ false → get_or unknowns.truth.items signal None ≡ o → (truths : List Bool) → truth_in truths o ≡ true
    plain_truth signal None other at truths = refl
    plain_truth signal (Some v) other at truths = absurd (false≢true (sym other ∙ is.booleans signal v (given signal v at)))

    pub own_columns_plain : ArePlain kernel nodes columns
    own_columns_plain signal other truths =
        let variable = own.all (Truth signal) in
        variable.function truths ∙ plain_truth signal (get_or unknowns.truth.items signal None) other refl truths
