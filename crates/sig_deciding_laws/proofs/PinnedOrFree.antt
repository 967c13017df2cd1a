-- Where each signal is solved, the conditions have an order, and each is free or pinned.
use Rattle.sig_deciding_laws.proofs.Common.{◌≡◌, ◌<◌, ◌⊎◌, inl, inr, ℕ, Bool, true, not, List, length, sym, ap, ◌∙◌, subst, arith, Contains, Some, slice_get, cases_order, SigId, AreSolved, HasClocks, HasRoot, IsAlive, IsFirstPinned, AreInOrder, is_condition, signal_id, AgreeOn, IsEarlier, IsSolved, IsFree, IsPinned, IsReaction, Reaction, status_at, one_layer, Kernel, at_contained, slice_get_within, dec_lt, map_dec, dec_both, dec_either, dec_not, dec_number, dec_option, dec_some, dec_truth, first_below}
use Rattle.sig_deciding_laws.proofs.SearchedReactions.{condition_is_signal, dec_agree, searched_reactions}
use Rattle.sig_deciding_laws.proofs.SortedLists.{below_listed, listed, signals_below}

-- ---- the order of conditions

module _ (kernel : Kernel) where
  pub earlier_onward : (b c d : ℕ) → IsEarlier kernel b c → IsEarlier kernel c d → IsEarlier kernel b d
  earlier_onward b c d first second = record { is = first.is; layer = first.layer; later_layer = second.later_layer; has = first.has; later_has = second.later_has; before = at first.before second.before } where
    same : first.later_layer ≡ second.layer
    same = one_layer kernel c first.later_layer second.layer first.later_has second.has

    at : (first.layer < first.later_layer) ⊎ ((first.layer ≡ first.later_layer) × (b < c)) → (second.layer < second.later_layer) ⊎ ((second.layer ≡ second.later_layer) × (c < d))
        → (first.layer < second.later_layer) ⊎ ((first.layer ≡ second.later_layer) × (b < d))
    at (inl less) (inl more) = inl (omega (arith, same, less, more))
    at (inl less) (inr more) = inl (omega (arith, same, less, more.0))
    at (inr less) (inl more) = inl (omega (arith, same, less.0, more))
    at (inr less) (inr more) = inr (omega (arith, same, less.0, more.0), omega (arith, less.1, more.1))

  pub not_earlier : (b : ℕ) → IsEarlier kernel b b → ⊥
  not_earlier b earlier = at earlier.before where
    same : earlier.layer ≡ earlier.later_layer
    same = one_layer kernel b earlier.layer earlier.later_layer earlier.has earlier.later_has

    at : (earlier.layer < earlier.later_layer) ⊎ ((earlier.layer ≡ earlier.later_layer) × (b < b)) → ⊥
    at (inl less) = omega (arith, same, less)
    at (inr less) = omega (arith, less.1)

  module _ (solved : AreSolved kernel) where
    layer_of : (condition : ℕ) → is_condition kernel condition ≡ true → IsSolved kernel condition
    layer_of condition is = solved condition (condition_is_signal kernel condition is)

    compare : (b d : SigId) → is_condition kernel b.0 ≡ true → is_condition kernel d.0 ≡ true → (b ≡ d) ⊎ (IsEarlier kernel b.0 d.0 ⊎ IsEarlier kernel d.0 b.0)
    compare b d is_b is_d = at (layer_of b.0 is_b) (layer_of d.0 is_d) where
      at : IsSolved kernel b.0 → IsSolved kernel d.0 → (b ≡ d) ⊎ (IsEarlier kernel b.0 d.0 ⊎ IsEarlier kernel d.0 b.0)
      at has_b has_d = by (cases_order has_b.0 has_d.0) (cases_order b.0 d.0) where
        before : (has_b.0 < has_d.0) ⊎ ((has_b.0 ≡ has_d.0) × (b.0 < d.0)) → IsEarlier kernel b.0 d.0
        before is = record { is = is_b; layer = has_b.0; later_layer = has_d.0; has = has_b.1; later_has = has_d.1; before = is }

        behind : (has_d.0 < has_b.0) ⊎ ((has_d.0 ≡ has_b.0) × (d.0 < b.0)) → IsEarlier kernel d.0 b.0
        behind is = record { is = is_d; layer = has_d.0; later_layer = has_b.0; has = has_d.1; later_has = has_b.1; before = is }

        by : ((has_b.0 ≡ has_d.0) ⊎ ((has_b.0 < has_d.0) ⊎ (has_d.0 < has_b.0))) → ((b.0 ≡ d.0) ⊎ ((b.0 < d.0) ⊎ (d.0 < b.0))) → (b ≡ d) ⊎ (IsEarlier kernel b.0 d.0 ⊎ IsEarlier kernel d.0 b.0)
        by (inr (inl less)) numbers = inr (inl (before (inl less)))
        by (inr (inr more)) numbers = inr (inr (behind (inl more)))
        by (inl same) (inl equal) = inl (λ j. record { 0 = equal j })
        by (inl same) (inr (inl less)) = inr (inl (before (inr (same, less))))
        by (inl same) (inr (inr more)) = inr (inr (behind (inr (sym same, more))))

    pub conditions_ordered : (conditions : List SigId) × AreInOrder kernel conditions
    conditions_ordered =
        let list = listed (λ (b d : SigId). IsEarlier kernel b.0 d.0) (λ (c : SigId). is_condition kernel c.0 ≡ true) (λ b c d. earlier_onward b.0 c.0 d.0) compare
        (signals_below (length kernel.signals)) (λ c is. below_listed (length kernel.signals) c (condition_is_signal kernel c.0 is)) (λ c. dec_truth (is_condition kernel c.0) true) in
        (list.0, record { all = list.2; order = list.1 })

    pub dec_earlier : (b d : ℕ) → is_condition kernel d ≡ true → Dec (IsEarlier kernel b d)
    dec_earlier b d is_d = at (dec_truth (is_condition kernel b) true) where
      by_layers : is_condition kernel b ≡ true → IsSolved kernel b → IsSolved kernel d → Dec (IsEarlier kernel b d)
      by_layers is_b has_b has_d = map_dec to back (dec_either (dec_lt has_b.0 has_d.0) (dec_both (dec_number has_b.0 has_d.0) (dec_lt b d))) where
        to : (has_b.0 < has_d.0) ⊎ ((has_b.0 ≡ has_d.0) × (b < d)) → IsEarlier kernel b d
        to is = record { is = is_b; layer = has_b.0; later_layer = has_d.0; has = has_b.1; later_has = has_d.1; before = is }

        back : IsEarlier kernel b d → (has_b.0 < has_d.0) ⊎ ((has_b.0 ≡ has_d.0) × (b < d))
        back earlier = by earlier.before where
          first : earlier.layer ≡ has_b.0
          first = one_layer kernel b earlier.layer has_b.0 earlier.has has_b.1

          second : earlier.later_layer ≡ has_d.0
          second = one_layer kernel d earlier.later_layer has_d.0 earlier.later_has has_d.1

          by : (earlier.layer < earlier.later_layer) ⊎ ((earlier.layer ≡ earlier.later_layer) × (b < d)) → (has_b.0 < has_d.0) ⊎ ((has_b.0 ≡ has_d.0) × (b < d))
          by (inl less) = inl (omega (arith, first, second, less))
          by (inr less) = inr (omega (arith, first, second, less.0), less.1)

      at : Dec (is_condition kernel b ≡ true) → Dec (IsEarlier kernel b d)
      at (no fails) = no (λ earlier. fails earlier.is)
      at (yes is_b) = by_layers is_b (layer_of b is_b) (layer_of d is_d)

    -- ---- pinned conditions

    module _ (condition : ℕ) (is : is_condition kernel condition ≡ true) where
      abbrev Earlier : ℕ → Type 0
      Earlier b = IsEarlier kernel b condition

      -- a reaction that agrees on all earlier conditions and gives the other truth
      abbrev Others : Reaction → Bool → Type 0
      Others reaction truth = (other : Reaction) × IsReaction kernel other × (AgreeOn kernel Earlier reaction other × (status_at other condition ≡ Some (not truth)))

      dec_others : (reaction : Reaction) (truth : Bool) → Dec (Others reaction truth)
      dec_others reaction truth =
          searched_reactions kernel (λ other. AgreeOn kernel Earlier reaction other × (status_at other condition ≡ Some (not truth))) (λ other _.
          dec_both (dec_agree kernel Earlier (λ b _. dec_earlier b condition is) reaction other) (dec_option dec_truth (status_at other condition) (Some (not truth))))

      abbrev Forces : Reaction → Type 0
      Forces reaction = (truth : Bool) × (status_at reaction condition ≡ Some truth) × (Others reaction truth → ⊥)

      pinned_as : (reaction : Reaction) (truth : Bool) → IsReaction kernel reaction → status_at reaction condition ≡ Some truth → (Others reaction truth → ⊥) → IsPinned kernel condition
      pinned_as reaction truth possible present none = record {
        is = is;
        reaction = reaction;
        truth = truth;
        possible = possible;
        present = present;
        forced = λ other is_other agree gives. none (other, is_other, (agree, gives));
      }

      dec_pinned_condition : Dec (IsPinned kernel condition)
      dec_pinned_condition =
          map_dec (λ found. pinned_as found.0 found.2.0 found.1 found.2.1 found.2.2)
          (λ pinned. (pinned.reaction, pinned.possible, (pinned.truth, pinned.present, (λ others. pinned.forced others.0 others.1 others.2.0 others.2.1))))
          (searched_reactions kernel Forces (λ reaction _. dec_some (λ truth. Others reaction truth → ⊥) (status_at reaction condition) (λ truth. dec_not (dec_others reaction truth))))

      free_unless : (IsPinned kernel condition → ⊥) → IsFree kernel condition
      free_unless loose reaction truth possible present = at (dec_others reaction truth) where
        at : Dec (Others reaction truth) → (other : Reaction) × IsReaction kernel other × AgreeOn kernel Earlier reaction other × (status_at other condition ≡ Some (not truth))
        at (yes others) = (others.0, others.1, others.2.0, others.2.1)
        at (no none) = absurd (loose (pinned_as reaction truth possible present none))

    dec_pinned : (condition : ℕ) → Dec (IsPinned kernel condition)
    dec_pinned condition = at (dec_truth (is_condition kernel condition) true) where
      at : Dec (is_condition kernel condition ≡ true) → Dec (IsPinned kernel condition)
      at (yes is) = dec_pinned_condition condition is
      at (no fails) = no (λ pinned. fails pinned.is)

    abbrev PinnedAt : List SigId → ℕ → Type 0
    PinnedAt conditions v = (c : SigId) × (slice_get conditions v ≡ Some c) × IsPinned kernel c.0

    dec_pinned_at : (conditions : List SigId) (v : ℕ) → Dec (PinnedAt conditions v)
    dec_pinned_at conditions v = dec_some (λ (c : SigId). IsPinned kernel c.0) (slice_get conditions v) (λ c. dec_pinned c.0)

    place_of : (conditions : List SigId) → AreInOrder kernel conditions → (condition : ℕ) → is_condition kernel condition ≡ true → (v : ℕ) × (slice_get conditions v ≡ Some (signal_id condition))
    place_of conditions order condition is = let there : Contains conditions (signal_id condition) = (order.all (signal_id condition)).1 is in (there.0, at_contained conditions (signal_id condition) there)

    module _ (alive : IsAlive kernel) (root : HasRoot kernel) (conditions : List SigId) (order : AreInOrder kernel conditions) where
      -- the first pinned one in the order
      first_pinned : (v : ℕ) (c : SigId) → slice_get conditions v ≡ Some c → IsPinned kernel c.0 → ((u : ℕ) → u < v → PinnedAt conditions u → ⊥) → IsFirstPinned kernel c.0
      first_pinned v c at_v pinned none = record { root = root; solved = solved; layer = layered.0; has = layered.1; pinned = pinned; first = first } where
        layered : IsSolved kernel c.0
        layered = layer_of c.0 pinned.is

        first : (other : ℕ) → IsEarlier kernel other c.0 → IsPinned kernel other → ⊥
        first other earlier other_pinned = by (cases_order place.0 v) where
          place : (u : ℕ) × (slice_get conditions u ≡ Some (signal_id other))
          place = place_of conditions order other earlier.is

          by : ((place.0 ≡ v) ⊎ ((place.0 < v) ⊎ (v < place.0))) → ⊥
          by (inl same) =
              let e : Some (signal_id other) ≡ Some c = sym place.1 ∙ ap (slice_get conditions) same ∙ at_v in
              let it : signal_id other ≡ c = cc in
              not_earlier c.0 (subst (λ (x : SigId). IsEarlier kernel x.0 c.0) it earlier)
          by (inr (inl less)) = none place.0 less (signal_id other, place.1, other_pinned)
          by (inr (inr more)) = not_earlier other (earlier_onward other c.0 other earlier (order.order v place.0 c (signal_id other) more at_v place.1))

      pub clocks_or_pinned : HasClocks kernel ⊎ ((b : SigId) × IsFirstPinned kernel b.0)
      clocks_or_pinned = at (first_below (PinnedAt conditions) (dec_pinned_at conditions) (length conditions)) where
        at : ((v : ℕ) × PinnedAt conditions v × ((u : ℕ) → u < v → PinnedAt conditions u → ⊥)) ⊎ ((v : ℕ) → v < length conditions → PinnedAt conditions v → ⊥)
            → HasClocks kernel ⊎ ((b : SigId) × IsFirstPinned kernel b.0)
        at (inl found) = inr (found.1.0, first_pinned found.0 found.1.0 found.1.1 found.1.2 found.2)
        at (inr none) = inl (record {
          alive = alive;
          root = root;
          solved = solved;
          free = λ condition is. free_unless condition is (λ pinned.
              let place = place_of conditions order condition is in
              none place.0 (slice_get_within conditions place.0 (signal_id condition) place.1) (signal_id condition, place.1, pinned));
        })
