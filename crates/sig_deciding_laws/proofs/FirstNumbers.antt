-- The different elements of a list, in the order in which they are met first, and the number of each.
use Rattle.sig_deciding_laws.proofs.Common.{◌≡◌, ◌<◌, ◌⊎◌, inl, inr, ℕ, List, [], ◌∷◌, ◌++◌, length, refl, sym, ap, ◌∙◌, subst, arith, append-nil, append_assoc, Some, slice_get, cases_eq, length_push, get_last, get_pushed, still_at, at_contained, contains_at, slice_get_within, dec_contains}

-- ---- elements of longer lists

end_at : {X : Type 0} (xs : List X) (x : X) (k : ℕ) → k ≡ length xs → slice_get (xs ++ x ∷ []) k ≡ Some x
end_at xs x k same = subst (λ m. slice_get (xs ++ x ∷ []) m ≡ Some x) (sym same) (get_last xs x)

-- ---- numbers

pub record AreNumbered {X : Type 0} (xs keys : List X) (numbers : List ℕ) : Type 0 where
  pub count : length numbers ≡ length xs
  pub is : (k : ℕ) (x : X) → slice_get xs k ≡ Some x → (i : ℕ) × (slice_get numbers k ≡ Some i) × (slice_get keys i ≡ Some x)
  pub differ : (i j : ℕ) (x : X) → slice_get keys i ≡ Some x → slice_get keys j ≡ Some x → i ≡ j
  pub used : (i : ℕ) → i < length keys → (k : ℕ) × (slice_get numbers k ≡ Some i)
  pub first : (k i : ℕ) → slice_get numbers k ≡ Some i → (earlier : ℕ) → earlier < i → (j : ℕ) × (j < k) × (slice_get numbers j ≡ Some earlier)

module _ {X : Type 0} (xs keys : List X) (numbers : List ℕ) (before : AreNumbered xs keys numbers) (x : X) where
  count_more : (i : ℕ) → length (numbers ++ i ∷ []) ≡ length (xs ++ x ∷ [])
  count_more i = let count = before.count in let one = length_push numbers i in let other = length_push xs x in omega (arith, count, one, other)

  -- one that was met
  earlier_met : (i k e : ℕ) → k ≡ length numbers → e < length keys → (j : ℕ) × (j < k) × (slice_get (numbers ++ i ∷ []) j ≡ Some e)
  earlier_met i k e end less =
      let from = before.used e less in
      let place = slice_get_within numbers from.0 e from.1 in
      (from.0, omega (arith, place, end), still_at numbers (i ∷ []) from.0 e from.1)

  first_kept : (i k j : ℕ) → slice_get numbers k ≡ Some j → (e : ℕ) → e < j → (m : ℕ) × (m < k) × (slice_get (numbers ++ i ∷ []) m ≡ Some e)
  first_kept i k j old e less = let from = before.first k j old e less in (from.0, from.1, still_at numbers (i ∷ []) from.0 e from.2)

  number_old : (i : ℕ) → slice_get keys i ≡ Some x → AreNumbered (xs ++ x ∷ []) keys (numbers ++ i ∷ [])
  number_old i at_x = record {
    count = count_more i;
    is = λ k z at_k. elim (get_pushed xs x k z at_k) [
      | inl old ↦ (let from = before.is k z old in (from.0, still_at numbers (i ∷ []) k from.0 from.1, from.2))
      | inr end ↦ (i, end_at numbers i k (end.0 ∙ sym before.count), at_x ∙ ap Some end.1)
    ];
    differ = before.differ;
    used = λ j less. let from = before.used j less in (from.0, still_at numbers (i ∷ []) from.0 j from.1);
    first = λ k j at_k e less. elim (get_pushed numbers i k j at_k) [
      | inl old ↦ first_kept i k j old e less
      | inr end ↦ (let same : i ≡ j = end.1 in let within = slice_get_within keys i x at_x in earlier_met i k e end.0 (omega (arith, less, same, within)))
    ];
  }

  module _ (new : (i : ℕ) → slice_get keys i ≡ Some x → ⊥) where
    new_differ : (i j : ℕ) (z : X) → slice_get (keys ++ x ∷ []) i ≡ Some z → slice_get (keys ++ x ∷ []) j ≡ Some z → i ≡ j
    new_differ i j z at_i at_j = at (get_pushed keys x i z at_i) (get_pushed keys x j z at_j) where
      at : (slice_get keys i ≡ Some z) ⊎ ((i ≡ length keys) × (x ≡ z)) → (slice_get keys j ≡ Some z) ⊎ ((j ≡ length keys) × (x ≡ z)) → i ≡ j
      at (inl old_i) (inl old_j) = before.differ i j z old_i old_j
      at (inl old_i) (inr end_j) = absurd (new i (old_i ∙ ap Some (sym end_j.1)))
      at (inr end_i) (inl old_j) = absurd (new j (old_j ∙ ap Some (sym end_i.1)))
      at (inr end_i) (inr end_j) = end_i.0 ∙ sym end_j.0

    number_new : AreNumbered (xs ++ x ∷ []) (keys ++ x ∷ []) (numbers ++ length keys ∷ [])
    number_new = record {
      count = count_more (length keys);
      is = λ k z at_k. elim (get_pushed xs x k z at_k) [
        | inl old ↦ (let from = before.is k z old in (from.0, still_at numbers (length keys ∷ []) k from.0 from.1, still_at keys (x ∷ []) from.0 z from.2))
        | inr end ↦ (length keys, end_at numbers (length keys) k (end.0 ∙ sym before.count), get_last keys x ∙ ap Some end.1)
      ];
      differ = new_differ;
      used = λ i less. elim (cases_eq i (length keys)) [
        | inl same ↦ (length numbers, get_last numbers (length keys) ∙ ap Some (sym same))
        | inr apart ↦ (
            let more = length_push keys x in
            let from = before.used i (omega (arith, less, apart, more)) in
            (from.0, still_at numbers (length keys ∷ []) from.0 i from.1))
      ];
      first = λ k j at_k e less. elim (get_pushed numbers (length keys) k j at_k) [
        | inl old ↦ first_kept (length keys) k j old e less
        | inr end ↦ (let same : length keys ≡ j = end.1 in earlier_met (length keys) k e end.0 (omega (arith, less, same)))
      ];
    }

module _ {X : Type 0} (same : (x y : X) → Dec (x ≡ y)) where
  abbrev Numbered : List X → Type 0
  Numbered xs = (keys : List X) × (numbers : List ℕ) × AreNumbered xs keys numbers

  number_next : (xs : List X) → Numbered xs → (x : X) → Numbered (xs ++ x ∷ [])
  number_next xs before x = elim (dec_contains same before.0 x) [
    | yes there ↦ (before.0, before.1 ++ there.0 ∷ [], number_old xs before.0 before.1 before.2 x there.0 (at_contained before.0 x there))
    | no none ↦ (before.0 ++ x ∷ [], before.1 ++ length before.0 ∷ [], number_new xs before.0 before.1 before.2 x (λ i is. none (contains_at before.0 i x is)))
  ]

  number_rest : (rest xs : List X) → Numbered xs → Numbered (xs ++ rest)
  number_rest [] xs before = subst Numbered (sym (append-nil xs)) before
  number_rest (x ∷ rest) xs before = subst Numbered (append_assoc xs (x ∷ []) rest) (number_rest rest (xs ++ x ∷ []) (number_next xs before x))

  number_none : AreNumbered {X = X} [] [] []
  number_none = record {
    count = refl;
    is = λ k x is. cc;
    differ = λ i j x at_i at_j. cc;
    used = λ i less. absurd (omega (arith, less));
    first = λ k i is e less. cc;
  }

  pub numbered_exist : (xs : List X) → (keys : List X) × (numbers : List ℕ) × AreNumbered xs keys numbers
  numbered_exist xs = number_rest xs [] ([], [], number_none)
