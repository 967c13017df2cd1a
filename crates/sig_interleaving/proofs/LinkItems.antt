-- What links hold before and after they were asked.
use Rattle.sig_interleaving.proofs.Common.{◌≡◌, ◌<◌, ◌≤◌, ◌∙◌, inl, inr, ℕ, ℤ, List, [], ◌∷◌, length, set, refl, sym, ap, subst, arith, slice_index_or, get_or-set_other, get_or-set_same, length-append, AllStay, Asked, FoundEmpty, FoundFull, LinkQueue, Nothing, OthersStay, Popped, Pushed, Queues, QueuesGoOn, cases_eq}

module _ (q r : Queues) where
  abbrev HasRoom : LinkQueue → LinkQueue → Type 0
  HasRoom before after = (after.capacity ≡ before.capacity) × (length before.items ≤ before.capacity → length after.items ≤ after.capacity)

  stays : (j : ℕ) → r j ≡ q j → HasRoom (q j) (r j)
  stays j same = subst (λ (l : LinkQueue). HasRoom (q j) l) (sym same) (refl, λ fits. fits)

  one_changed : (link : ℕ) → OthersStay link q r → HasRoom (q link) (r link) → (j : ℕ) → HasRoom (q j) (r j)
  one_changed link others here j = elim (cases_eq j link) [
    | inl same ↦ subst (λ i. HasRoom (q i) (r i)) (sym same) here
    | inr apart ↦ stays j (others j apart)
  ]

  -- each link keeps its capacity, and holds no more than that
  pub room_stays : (asked : Asked) → QueuesGoOn asked q r → (j : ℕ) → HasRoom (q j) (r j)
  room_stays Nothing go j = stays j (go j)
  room_stays (FoundFull link) go j = stays j (go.1 j)
  room_stays (FoundEmpty link) go j = stays j (go.1 j)
  room_stays (Pushed link item) go j =
      one_changed link go.2 (subst (λ (l : LinkQueue). HasRoom (q link) l) (sym go.1)
      (refl, λ fits. (let more = length-append (q link).items (item ∷ []) in let less = go.0 in omega (arith, more, less)))) j
  room_stays (Popped link item) go j =
      one_changed link go.1 (subst (λ (l : LinkQueue). HasRoom l (r link)) (sym go.0) (refl, λ fits. omega (arith, fits))) j

  module _ (links : List (List ℤ)) (shows : (j : ℕ) → slice_index_or links j [] ≡ (q j).items) where
    -- no link changed
    pub links_stay : AllStay q r → (j : ℕ) → slice_index_or links j [] ≡ (r j).items
    links_stay stay j = shows j ∙ ap (λ (l : LinkQueue). l.items) (sym (stay j))

    -- one link changed
    pub links_put : (link : ℕ) → link < length links → (items : List ℤ) → (r link).items ≡ items → OthersStay link q r
        → (j : ℕ) → slice_index_or (set links link items) j [] ≡ (r j).items
    links_put link within items is others j = elim (cases_eq j link) [
      | inl same ↦ subst (λ i. slice_index_or (set links link items) i [] ≡ (r i).items) (sym same) (get_or-set_same links link items [] within ∙ sym is)
      | inr apart ↦ get_or-set_other links link j items [] apart ∙ shows j ∙ ap (λ (l : LinkQueue). l.items) (sym (others j apart))
    ]
