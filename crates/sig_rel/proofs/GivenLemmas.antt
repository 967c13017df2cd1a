-- The numbers of classes and truths, as they are given.
use Rattle.sig_rel.proofs.Common.{◌≡◌, ◌<◌, ◌≤◌, ◌+◌, ◌^◌, inl, inr, ℕ, suc, zero, List, length, get_or, Option, None, Some, refl, sym, ap, ◌∙◌, subst, arith, is_some, slice_get, count_by, replicate, filter, range_with_len, length-map, length-replicate, length-filter, count_by-le-length, length-range_with_len, IsValid, Kernel, conditions_of, is_condition, signal_id, AreGiven, AreNumbers, HasNumbers, IsBoolean, IsOwn, Retains, given_at, next_after, Numbering}
use Rattle.sig_rel.proofs.NumberLemmas.{count_after, given_numbers, given_there, got_given, kept_given, later_numbers, length_given, next_rises}

-- there are no more conditions than signals
pub conditions_within : (kernel : Kernel) → length (conditions_of kernel) ≤ length kernel.signals
conditions_within kernel =
    let a = length-map (filter (is_condition kernel) (range_with_len 0 (length kernel.signals))) signal_id in
    let b = length-filter (is_condition kernel) (range_with_len 0 (length kernel.signals)) in
    let c = count_by-le-length (is_condition kernel) (range_with_len 0 (length kernel.signals)) in
    let d = length-range_with_len 0 (length kernel.signals) in
    omega (arith, a, b, c, d)

-- the next number fits
pub room_for_next : (kernel : Kernel) (least : List ℕ) (numbering : Numbering) → IsValid kernel → AreGiven kernel least (length (conditions_of kernel)) numbering → numbering.next + 1 < 2 ^ 32
room_for_next kernel least numbering valid given =
    let limit = valid.parts.signals in
    let conditions = conditions_within kernel in
    let a = count_by-le-length is_some numbering.class.items in
    let b = count_by-le-length is_some numbering.truth.items in
    let e = given.counted in
    let f = given.class_count in
    let g = given.truth_count in
    omega (arith, limit, conditions, a, b, e, f, g)

pub first_below : (kernel : Kernel) (least : List ℕ) (first : ℕ) (numbering : Numbering) → AreGiven kernel least first numbering → first ≤ numbering.next
first_below kernel least first numbering given = let e = given.counted in omega arith

none_there : (n k v : ℕ) → slice_get (replicate n None) k ≡ Some (Some v) → ⊥
none_there (suc n) (suc k) v is = none_there n k v is
none_there _ _ v is = cc

none_numbers : (IsWanted : ℕ → Type 0) (first next n : ℕ) → AreNumbers IsWanted first next (replicate n None)
none_numbers IsWanted first next n = record {
  wanted = λ k v is. absurd (none_there n k v is);
  from = λ k v is. absurd (none_there n k v is);
  below = λ k v is. absurd (none_there n k v is);
  once = λ j k v is is'. absurd (none_there n j v is);
}

none_counted : (n : ℕ) → count_by is_some (replicate n (let none : Option ℕ = None in none)) ≡ 0
none_counted zero = refl
none_counted (suc n) = none_counted n

-- at first no number is given
pub none_given : (kernel : Kernel) (least : List ℕ) (first n : ℕ) (numbering : Numbering) → n ≡ length kernel.signals
    → numbering.class.items ≡ replicate n None → numbering.truth.items ≡ replicate n None → numbering.next ≡ first → AreGiven kernel least first numbering
none_given kernel least first n numbering count classes truths next =
    let a = ap (count_by is_some) classes ∙ none_counted n in
    let b = ap (count_by is_some) truths ∙ none_counted n in
    record {
      class_count = ap length classes ∙ length-replicate n None ∙ count;
      truth_count = ap length truths ∙ length-replicate n None ∙ count;
      classes = subst (AreNumbers (IsOwn least) first numbering.next) (sym classes) (none_numbers (IsOwn least) first numbering.next n);
      truths = subst (AreNumbers (IsBoolean kernel) first numbering.next) (sym truths) (none_numbers (IsBoolean kernel) first numbering.next n);
      differ = λ j k v is is'. none_there n j v (ap (λ xs. slice_get xs j) (sym classes) ∙ is);
      counted = omega (arith, a, b, next);
    }

module _ (kernel : Kernel) (least : List ℕ) (first : ℕ) (old new : Numbering) (given : AreGiven kernel least first old) where
  -- a class is given a number
  pub class_given : (k : ℕ) → IsOwn least k → k < length kernel.signals
      → new.class.items ≡ given_at (get_or old.class.items k None) old.class.items k old.next → new.truth ≡ old.truth → new.next ≡ next_after (get_or old.class.items k None) old.next
      → AreGiven kernel least first new
  class_given k own lt classes truths next =
      let o : Option ℕ = get_or old.class.items k None in
      let same = ap (λ v. v.items) truths in
      let within : k < length old.class.items = let e = given.class_count in omega arith in
      let le = first_below kernel least first old given in
      let rises = next_rises o old.next in
      let after = count_after o old.class.items k old.next refl within in
      let count = given.counted in
      let c = ap (count_by is_some) classes in
      let t = ap (count_by is_some) same in
      record {
        class_count = ap length classes ∙ length_given o old.class.items k old.next ∙ given.class_count;
        truth_count = ap length same ∙ given.truth_count;
        classes = rw (classes, next) (given_numbers (IsOwn least) first old.next old.class.items k given.classes o own le);
        truths = rw (same, next) (later_numbers (IsBoolean kernel) first old.next (next_after o old.next) old.truth.items rises given.truths);
        differ = λ i j v is is'. elim (got_given o old.class.items k i old.next v (ap (λ xs. slice_get xs i) (sym classes) ∙ is)) [
          | inl e ↦ let lt' = given.truths.below j v (ap (λ xs. slice_get xs j) (sym same) ∙ is') in absurd (omega (arith, e, lt'))
          | inr there ↦ given.differ i j v there (ap (λ xs. slice_get xs j) (sym same) ∙ is')
        ];
        counted = omega (arith, after, count, c, t, next);
      }

  -- a truth is given a number
  pub truth_given : (k : ℕ) → IsBoolean kernel k → k < length kernel.signals
      → new.truth.items ≡ given_at (get_or old.truth.items k None) old.truth.items k old.next → new.class ≡ old.class → new.next ≡ next_after (get_or old.truth.items k None) old.next
      → AreGiven kernel least first new
  truth_given k boolean lt truths classes next =
      let o : Option ℕ = get_or old.truth.items k None in
      let same = ap (λ v. v.items) classes in
      let within : k < length old.truth.items = let e = given.truth_count in omega arith in
      let le = first_below kernel least first old given in
      let rises = next_rises o old.next in
      let after = count_after o old.truth.items k old.next refl within in
      let count = given.counted in
      let c = ap (count_by is_some) truths in
      let t = ap (count_by is_some) same in
      record {
        class_count = ap length same ∙ given.class_count;
        truth_count = ap length truths ∙ length_given o old.truth.items k old.next ∙ given.truth_count;
        classes = rw (same, next) (later_numbers (IsOwn least) first old.next (next_after o old.next) old.class.items rises given.classes);
        truths = rw (truths, next) (given_numbers (IsBoolean kernel) first old.next old.truth.items k given.truths o boolean le);
        differ = λ i j v is is'. elim (got_given o old.truth.items k j old.next v (ap (λ xs. slice_get xs j) (sym truths) ∙ is')) [
          | inl e ↦ let lt' = given.classes.below i v (ap (λ xs. slice_get xs i) (sym same) ∙ is) in absurd (omega (arith, e, lt'))
          | inr there ↦ given.differ i j v (ap (λ xs. slice_get xs i) (sym same) ∙ is) there
        ];
        counted = omega (arith, after, count, c, t, next);
      }

module _ (old new : Numbering) where
  -- numbers stay where a class is given one, and that class has one
  pub class_retained : (k : ℕ) → new.class.items ≡ given_at (get_or old.class.items k None) old.class.items k old.next → new.truth ≡ old.truth → Retains old new
  class_retained k classes truths = record {
    classes = λ j v is. ap (λ xs. slice_get xs j) classes ∙ kept_given (get_or old.class.items k None) old.class.items k j old.next v refl is;
    truths = λ j v is. ap (λ n. slice_get n.items j) truths ∙ is;
  }

  pub truth_retained : (k : ℕ) → new.truth.items ≡ given_at (get_or old.truth.items k None) old.truth.items k old.next → new.class ≡ old.class → Retains old new
  truth_retained k truths classes = record {
    classes = λ j v is. ap (λ n. slice_get n.items j) classes ∙ is;
    truths = λ j v is. ap (λ xs. slice_get xs j) truths ∙ kept_given (get_or old.truth.items k None) old.truth.items k j old.next v refl is;
  }

  pub class_there : (k : ℕ) → k < length old.class.items → new.class.items ≡ given_at (get_or old.class.items k None) old.class.items k old.next → (v : ℕ) × (slice_get new.class.items k ≡ Some (Some v))
  class_there k lt classes = let there = given_there (get_or old.class.items k None) old.class.items k old.next refl lt in (there.0, ap (λ xs. slice_get xs k) classes ∙ there.1)

  pub truth_there : (k : ℕ) → k < length old.truth.items → new.truth.items ≡ given_at (get_or old.truth.items k None) old.truth.items k old.next → (v : ℕ) × (slice_get new.truth.items k ≡ Some (Some v))
  truth_there k lt truths = let there = given_there (get_or old.truth.items k None) old.truth.items k old.next refl lt in (there.0, ap (λ xs. slice_get xs k) truths ∙ there.1)

pub retained_then : (r s t : Numbering) → Retains r s → Retains s t → Retains r t
retained_then r s t first second = record {
  classes = λ k v is. second.classes k v (first.classes k v is);
  truths = λ k v is. second.truths k v (first.truths k v is);
}

pub has_still : (kernel : Kernel) (least : List ℕ) (old new : Numbering) (signal : ℕ) → Retains old new → HasNumbers kernel least old signal → HasNumbers kernel least new signal
has_still kernel least old new signal retains has = record {
  class = (has.class.0, retains.classes (get_or least signal 0) has.class.0 has.class.1);
  truth = λ boolean. let there = has.truth boolean in (there.0, retains.truths signal there.0 there.1);
}
