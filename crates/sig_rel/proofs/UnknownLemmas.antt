-- Numbers of all classes and booleans are unknowns.
use Rattle.sig_rel.proofs.Common.{◌≡◌, ◌<◌, ◌≤◌, ◌+◌, inl, inr, ℕ, true, List, length, get_or, map, Option, Some, refl, sym, ap, ◌∙◌, subst, arith, eq-eqb, option_map, slice_get, slice_index, count_by, ◌==◌, range_with_len, false≢true, cases_lt, length-map, get_or_from_slice_get, slice_get-get_or, slice_get-map, slice_get_past, slice_get_within, kind_of, Kernel, conditions_of, is_boolean_kind, AreLeast, AreGiven, HasNumbers, number_of, AreUnknowns, IsUsed, is_boolean, LieWithin, Numbering, Unknowns}
use Rattle.sig_rel.proofs.ClassLemmas.{class_of_least, least_of_class}
use Rattle.sig_rel.proofs.Places.{count_given}
use Rattle.sig_rel.proofs.UsedLemmas.{one_count}

-- a boolean is a signal
pub boolean_within : (kernel : Kernel) (s : ℕ) → is_boolean kernel s ≡ true → s < length kernel.signals
boolean_within kernel s boolean = elim (cases_lt s (length kernel.signals)) [
  | inl lt ↦ lt
  | inr le ↦ absurd (false≢true (ap (λ o. is_boolean_kind (kind_of o)) (sym (slice_get_past kernel.signals s le)) ∙ boolean))
]

-- how many unknowns there are
abbrev counted : Kernel → List ℕ → ℕ
counted kernel least = count_by (λ signal. slice_index least signal == signal) (range_with_len 0 (length kernel.signals)) + count_by (is_boolean kernel) (range_with_len 0 (length kernel.signals))

module _ (kernel : Kernel) (least : List ℕ) (numbering : Numbering) (present : List ℕ) (are : AreLeast kernel least)
    (given : AreGiven kernel least (length (conditions_of kernel)) numbering)
    (each : (s : ℕ) → s < length kernel.signals → HasNumbers kernel least numbering s)
    (is : present ≡ map (λ class. number_of (slice_get numbering.class.items class)) least) where
  all_present : length present ≡ length kernel.signals
  all_present = ap length is ∙ length-map least (λ class. number_of (slice_get numbering.class.items class)) ∙ are.count

  -- the presence of a signal is the number of its class
  presence_at : (s : ℕ) → s < length kernel.signals → (v : ℕ) × (slice_get present s ≡ Some v) × (slice_get numbering.class.items (get_or least s 0) ≡ Some (Some v))
  presence_at s lt =
      let there = (each s lt).class in
      let within : s < length least = let e = are.count in omega arith in
      let named = slice_get-get_or least s 0 within in
      let at = ap (λ xs. slice_get xs s) is ∙ slice_get-map (λ class. number_of (slice_get numbering.class.items class)) least s in
      (there.0, at ∙ ap (λ o. option_map (λ class. number_of (slice_get numbering.class.items class)) o) named ∙ ap (λ o. Some (number_of o)) there.1, there.1)

  presence_of : (s v : ℕ) → slice_get present s ≡ Some v → (s < length kernel.signals) × (slice_get numbering.class.items (get_or least s 0) ≡ Some (Some v))
  presence_of s v at =
      let within = slice_get_within present s v at in
      let count = all_present in
      let lt : s < length kernel.signals = omega (arith, within, count) in
      let there = presence_at s lt in
      let same : Some there.0 ≡ Some v = sym there.1 ∙ at in
      let e : there.0 ≡ v = cc in
      (lt, subst (λ w. slice_get numbering.class.items (get_or least s 0) ≡ Some (Some w)) e there.2)

  next_within : numbering.next ≤ length (conditions_of kernel) + counted kernel least
  next_within =
      let a = count_given (λ s. get_or least s 0 == s) numbering.class.items 0 (length kernel.signals) given.class_count
      (λ k v at. let e : 0 + k ≡ k = omega arith in subst (λ m. (get_or least m 0 == m) ≡ true) (sym e) (eq-eqb (get_or least k 0) k (given.classes.wanted k v at))) in
      let b = count_given (is_boolean kernel) numbering.truth.items 0 (length kernel.signals) given.truth_count
      (λ k v at. let e : 0 + k ≡ k = omega arith in subst (λ m. is_boolean kernel m ≡ true) (sym e) (given.truths.wanted k v at)) in
      let e = given.counted in
      omega (arith, a, b, e)

  pub are_unknowns : (count : ℕ) × AreUnknowns kernel count present numbering.truth.items
  are_unknowns = (
    counted kernel least,
    record {
      presences = all_present;
      truths = given.truth_count;
      counted = (least, are, refl);
      classes = λ s t ls lt.
          let a = presence_at s ls in
          let b = presence_at t lt in
          let ea = get_or_from_slice_get present s a.0 0 a.1 in
          let eb = get_or_from_slice_get present t b.0 0 b.1 in (
            λ same. class_of_least kernel least are s t ls lt
                (given.classes.once (get_or least s 0) (get_or least t 0) a.0 a.2 (let e : b.0 ≡ a.0 = sym eb ∙ sym same ∙ ea in subst (λ w. slice_get numbering.class.items (get_or least t 0) ≡ Some (Some w)) e b.2)),
            λ same.
                let one = least_of_class kernel least are s t ls lt same in
                let both : Some (let x : Option ℕ = Some a.0 in x) ≡ Some (Some b.0) = sym a.2 ∙ ap (λ k. slice_get numbering.class.items k) one ∙ b.2 in
                let e : a.0 ≡ b.0 = cc in
                ea ∙ e ∙ sym eb,
          );
      some = λ s boolean. (each s (boolean_within kernel s boolean)).truth boolean;
      booleans = λ s v at. given.truths.wanted s v at;
      apart = λ s t v at at'. given.truths.once s t v at at';
      differ = λ s t v at at'. given.differ (get_or least s 0) t v (presence_of s v at).1 at';
      within = λ v used. within_of v used;
    },
  ) where
    within_of : (v : ℕ) → IsUsed present numbering.truth.items v → (length (conditions_of kernel) ≤ v) × (v < length (conditions_of kernel) + counted kernel least)
    within_of v (inl (s, at)) =
        let there = (presence_of s v at).1 in
        let below = given.classes.below (get_or least s 0) v there in
        let limit = next_within in
        (given.classes.from (get_or least s 0) v there, omega (arith, below, limit))
    within_of v (inr (s, at)) =
        let below = given.truths.below s v at in
        let limit = next_within in
        (given.truths.from s v at, omega (arith, below, limit))

  -- they lie from the first one to the next, as many as there are or fewer
  pub lie_within : (unknowns : Unknowns) → unknowns.present.items ≡ present → unknowns.truth.items ≡ numbering.truth.items → unknowns.first ≡ length (conditions_of kernel) → unknowns.end ≡ numbering.next → LieWithin kernel unknowns
  lie_within unknowns presents truths first end = record {
    order = let e = given.counted in omega (arith, e, first, end);
    few = λ count counts.
        let limit = next_within in
        let same = one_count kernel (counted kernel least) count (least, are, refl) counts in
        omega (arith, limit, same, first, end);
    within = λ v used. used_within v used;
  } where
    used_within : (v : ℕ) → IsUsed unknowns.present.items unknowns.truth.items v → (unknowns.first ≤ v) × (v < unknowns.end)
    used_within v (inl (s, at)) =
        let there = (presence_of s v (ap (λ xs. slice_get xs s) (sym presents) ∙ at)).1 in
        let low = given.classes.from (get_or least s 0) v there in
        let high = given.classes.below (get_or least s 0) v there in
        (omega (arith, low, first), omega (arith, high, end))
    used_within v (inr (s, at)) =
        let there = ap (λ xs. slice_get xs s) (sym truths) ∙ at in
        let low = given.truths.from s v there in
        let high = given.truths.below s v there in
        (omega (arith, low, first), omega (arith, high, end))
