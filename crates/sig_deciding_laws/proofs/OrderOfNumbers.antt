-- Numbers that no relation leads back to themselves have an order.
use Rattle.sig_deciding_laws.proofs.Common.{◌≡◌, ◌<◌, ◌≤◌, inl, inr, ℕ, zero, suc, List, [], ◌∷◌, ◌++◌, length, get_or, take, refl, sym, ap, ◌∙◌, subst, arith, Contains, slice_index, cases_eq, get_or_append_left, get_or_default, get_or_push, length_push, take-append-le, take_at, IsLeast, IsReady, Reaches, directly, onward, AreTwo, two_are_same, dec_lt, map_dec, dec_both, dec_contains, dec_implies, dec_not, dec_number, dec_each, searched_below}
use Rattle.sig_plan.specs.Order.{IsOrdered}
use Rattle.sig_deciding_laws.proofs.Counts.{counted, counted_less}
use Rattle.sig_deciding_laws.proofs.Searchable.{some_least}

dec_taken : (taken : List ℕ) (k : ℕ) → Dec (Contains taken k)
dec_taken taken k = dec_contains dec_number taken k

-- ---- a number that is left

place_in : (taken : List ℕ) (k : ℕ) → Dec (Contains taken k) → ℕ
place_in taken k (yes there) = there.0
place_in taken k (no none) = 0

place_within : (taken : List ℕ) (k : ℕ) → Contains taken k → (there : Dec (Contains taken k)) → place_in taken k there < length taken
unfolding place_in
place_within taken k is (yes there) = there.1
place_within taken k is (no none) = absurd (none is)

at_place : (taken : List ℕ) (k : ℕ) → Contains taken k → (there : Dec (Contains taken k)) → get_or taken (place_in taken k there) 0 ≡ k
unfolding place_in
at_place taken k is (yes there) = get_or_default taken there.0 0 k there.1 ∙ there.2
at_place taken k is (no none) = absurd (none is)

none_left : (taken : List ℕ) (n : ℕ) → length taken < n → ((k : ℕ) → k < n → Contains taken k) → ⊥
none_left taken n few all = two_places (two_are_same (length taken) (λ k. place_in taken k (dec_taken taken k)) (λ k less. place_within taken k (all k (omega (arith, less, few))) (dec_taken taken k))) where
  two_places : AreTwo (λ k. place_in taken k (dec_taken taken k)) (suc (length taken)) → ⊥
  two_places two =
      let less = two.less in
      let within = two.within in
      let same : two.a ≡ two.b =
      sym (at_place taken two.a (all two.a (omega (arith, less, within, few))) (dec_taken taken two.a))
      ∙ ap (λ i. get_or taken i 0) two.same
      ∙ at_place taken two.b (all two.b (omega (arith, within, few))) (dec_taken taken two.b) in
      omega (arith, less, same)

some_left : (taken : List ℕ) (n : ℕ) → length taken < n → (i : ℕ) × (i < n) × (Contains taken i → ⊥)
some_left taken n few = at (searched_below n (λ i. Contains taken i → ⊥) (λ i _. dec_not (dec_taken taken i))) where
  at : Dec ((i : ℕ) × (i < n) × (Contains taken i → ⊥)) → (i : ℕ) × (i < n) × (Contains taken i → ⊥)
  at (yes found) = found
  at (no none) = absurd (none_left taken n few (λ k less. elim (dec_taken taken k) [ yes there ↦ there | no left ↦ absurd (none (k, less, left)) ]))

-- ---- a number that is ready

reaches_then : (R : ℕ → ℕ → Type 0) (i k : ℕ) → Reaches R i k → (j : ℕ) → R k j → Reaches R i j
reaches_then R _ _ (directly i k first) j then = onward i k j first (directly k j then)
reaches_then R _ _ (onward i l k first rest) j then = onward i l j first (reaches_then R l k rest j then)

module _ (R : ℕ → ℕ → Type 0) (n : ℕ) (within : (i j : ℕ) → R i j → (i < n) × (j < n)) (decide : (i j : ℕ) → Dec (R i j)) (reaches : (i j : ℕ) → Dec (Reaches R i j))
    (acyclic : (i : ℕ) → Reaches R i i → ⊥) where
  -- how many numbers lead to one
  abbrev rank : ℕ → ℕ
  rank i = counted (λ k. Reaches R k i) (λ k. reaches k i) n

  rank_less : (p i : ℕ) → R p i → rank p < rank i
  rank_less p i edge =
      counted_less (λ k. Reaches R k p) (λ k. Reaches R k i) (λ k. reaches k p) (λ k. reaches k i) (λ k to. reaches_then R k p to i edge)
      n p (within p i edge).0 (directly p i edge) (acyclic p)

  module _ (taken : List ℕ) where
    abbrev IsBefore : ℕ → ℕ → Type 0
    IsBefore i p = R p i × (Contains taken p → ⊥)

    dec_some_before : (i : ℕ) → Dec ((p : ℕ) × (p < n) × IsBefore i p)
    dec_some_before i = searched_below n (IsBefore i) (λ p _. dec_both (decide p i) (dec_not (dec_taken taken p)))

    ready : (i : ℕ) → i < n → (Contains taken i → ⊥) → (((p : ℕ) × (p < n) × IsBefore i p) → ⊥) → IsReady R n taken i
    ready i less left none = record {
      within = less;
      left = left;
      free = λ p edge. elim (dec_taken taken p) [ yes there ↦ there | no missing ↦ absurd (none (p, (within p i edge).0, (edge, missing))) ];
    }

    some_ready : (fuel i : ℕ) → rank i ≤ fuel → i < n → (Contains taken i → ⊥) → (j : ℕ) × IsReady R n taken j
    some_ready zero i most less left = at (dec_some_before i) where
      at : Dec ((p : ℕ) × (p < n) × IsBefore i p) → (j : ℕ) × IsReady R n taken j
      at (yes found) = absurd (omega (arith, most, rank_less found.0 i found.2.0))
      at (no none) = (i, ready i less left none)
    some_ready (suc fuel) i most less left = at (dec_some_before i) (some_ready fuel) where
      at : Dec ((p : ℕ) × (p < n) × IsBefore i p) → ((p : ℕ) → rank p ≤ fuel → p < n → (Contains taken p → ⊥) → (j : ℕ) × IsReady R n taken j) → (j : ℕ) × IsReady R n taken j
      at (yes found) next = next found.0 (omega (arith, most, rank_less found.0 i found.2.0)) found.1 found.2.1
      at (no none) next = (i, ready i less left none)

    dec_ready : (i : ℕ) → Dec (IsReady R n taken i)
    dec_ready i =
        map_dec (λ parts. record { within = parts.0; left = parts.1.0; free = λ p edge. parts.1.1 p (within p i edge).0 edge }) (λ is. (is.within, (is.left, λ p _ edge. is.free p edge)))
        (dec_both (dec_lt i n) (dec_both (dec_not (dec_taken taken i))
        (dec_each (λ p. p < n) (searched_below n) (λ p. R p i → Contains taken p) (λ p _. dec_implies (decide p i) (dec_taken taken p)))))

    least_ready : length taken < n → (j : ℕ) × IsLeast (IsReady R n taken) j
    least_ready few =
        let left = some_left taken n few in
        let one = some_ready (rank left.0) left.0 (omega arith) left.1 left.2 in
        some_least (IsReady R n taken) dec_ready one.0 one.1

  -- ---- one number after another

  pub record AreTaken (m : ℕ) (taken : List ℕ) : Type 0 where
    pub count : length taken ≡ m
    pub each : (k : ℕ) → k < m → IsLeast (IsReady R n (take k taken)) (slice_index taken k)

  taken_more : (m : ℕ) (taken : List ℕ) → AreTaken m taken → (x : ℕ) → IsLeast (IsReady R n taken) x → AreTaken (suc m) (taken ++ x ∷ [])
  taken_more m taken before x least = record { count = (let more = length_push taken x in omega (arith, more, count)); each = each } where
    count : length taken ≡ m
    count = before.count

    old : (k : ℕ) → k < m → IsLeast (IsReady R n (take k (taken ++ x ∷ []))) (get_or (taken ++ x ∷ []) k 0)
    old k less =
        subst (λ i. IsLeast (IsReady R n (take k (taken ++ x ∷ []))) i) (sym (get_or_append_left taken (x ∷ []) 0 k (omega (arith, less, count))))
        (subst (λ (front : List ℕ). IsLeast (IsReady R n front) (get_or taken k 0)) (sym (take-append-le k taken (x ∷ []) (omega (arith, less, count)))) (before.each k less))

    last : (k : ℕ) → length taken ≡ k → IsLeast (IsReady R n (take k (taken ++ x ∷ []))) (get_or (taken ++ x ∷ []) k 0)
    last k same =
        subst (λ i. IsLeast (IsReady R n (take k (taken ++ x ∷ []))) i) (sym (get_or_push taken x 0 k same))
        (subst (λ (front : List ℕ). IsLeast (IsReady R n front) x) (sym (take_at taken (x ∷ []) k same)) least)

    each : (k : ℕ) → k < suc m → IsLeast (IsReady R n (take k (taken ++ x ∷ []))) (slice_index (taken ++ x ∷ []) k)
    each k less = elim (cases_eq k m) [ inl same ↦ last k (count ∙ sym same) | inr apart ↦ old k (omega (arith, less, apart)) ]

  taken_exist : (m : ℕ) → m ≤ n → (taken : List ℕ) × AreTaken m taken
  taken_exist zero most = ([], record { count = refl; each = λ k less. absurd (omega (arith, less)) })
  taken_exist (suc m) most =
      let before = taken_exist m (omega (arith, most)) in
      let count : length before.0 ≡ m = before.1.count in
      let next = least_ready before.0 (omega (arith, count, most)) in
      (before.0 ++ next.0 ∷ [], taken_more m before.0 before.1 next.0 next.1)

  pub order_exists : (order : List ℕ) × IsOrdered R n order
  order_exists = let all = taken_exist n (omega arith) in (all.0, record { all = all.1.count; each = all.1.each })
