-- The least signals of the clock classes are no more than the unknowns.
use Rattle.sig_pace.proofs.Common.{◌≡◌, ◌<◌, ◌≤◌, ◌⊎◌, inl, inr, ℕ, eqb, count_by, filter, List, length, get_or, sym, ap, ◌∙◌, subst, arith, Contains, range_with_len, cases_lt, eq-eqb, length-filter, AreLeast, itself, Kernel, IsUnknownCount, is_boolean, leaders_of, least_below, least_twice, ordered_leaders, AreLeaders, filter_same, in_filter, of_filter, in_range, within_range, least_one}

module _ (kernel : Kernel) (least leaders : List ℕ) (are : AreLeast kernel least) (is : leaders ≡ leaders_of least) where
  leader_there : (s : ℕ) → s < length kernel.signals → Contains leaders (get_or least s 0)
  leader_there s lt =
      let below = least_below kernel least are s lt in
      let within : get_or least s 0 < length least = omega (arith, below, are.count) in
      subst (λ (xs : List ℕ). Contains xs (get_or least s 0)) (sym is)
      (in_filter (λ k. eqb (get_or least k 0) k) (range_with_len 0 (length least)) (get_or least s 0) (in_range (length least) (get_or least s 0) within)
      (eq-eqb (get_or least (get_or least s 0) 0) (get_or least s 0) (least_twice kernel least are s lt)))

  leader_signal : (s : ℕ) → Contains leaders s → s < length kernel.signals
  leader_signal s there =
      let parts = of_filter (λ k. eqb (get_or least k 0) k) (range_with_len 0 (length least)) s (subst (λ (xs : List ℕ). Contains xs s) is there) in
      let lt = within_range (length least) s parts.0 in
      omega (arith, lt, are.count)

  module _ (u : ℕ) (count : IsUnknownCount kernel u) where
    leaders_count : length leaders ≡ count_by (λ s. eqb (get_or count.0 s 0) s) (range_with_len 0 (length kernel.signals))
    leaders_count =
        let range = range_with_len 0 (length kernel.signals) in
        ap length is
        ∙ ap (λ n. length (filter (λ s. eqb (get_or least s 0) s) (range_with_len 0 n))) are.count
        ∙ filter_same (λ s. eqb (get_or least s 0) s) (λ s. eqb (get_or count.0 s 0) s) range (λ s there. ap (λ k. eqb k s) (least_one kernel least count.0 are count.1 s (within_range (length kernel.signals) s there)))
        ∙ length-filter (λ s. eqb (get_or count.0 s 0) s) range

    few_leaders : length leaders ≤ u
    few_leaders = let e = leaders_count in let sum = count.2 in omega (arith, e, sum)

    some_leader : (u ≡ 0) ⊎ (1 ≤ length leaders)
    some_leader = by (cases_lt 0 (length kernel.signals)) where
      by : ((0 < length kernel.signals) ⊎ (length kernel.signals ≤ 0)) → (u ≡ 0) ⊎ (1 ≤ length leaders)
      by (inl pos) = let there = leader_there 0 pos in inr (let lt = there.1 in omega (arith, lt))
      by (inr none) =
          let empty : length kernel.signals ≡ 0 = omega (arith, none) in
          let classes : count_by (λ s. eqb (get_or count.0 s 0) s) (range_with_len 0 (length kernel.signals)) ≡ 0 = ap (λ n. count_by (λ s. eqb (get_or count.0 s 0) s) (range_with_len 0 n)) empty in
          let booleans : count_by (is_boolean kernel) (range_with_len 0 (length kernel.signals)) ≡ 0 = ap (λ n. count_by (is_boolean kernel) (range_with_len 0 n)) empty in
          inl (count.2 ∙ omega (arith, classes, booleans))

  pub leaders_are : AreLeaders kernel leaders
  leaders_are = record {
    order = ordered_leaders least leaders is;
    are = leader_signal;
    all = λ s lt. (get_or least s 0, leader_there s lt, are.same s lt, are.least s s lt (itself s));
    few = few_leaders;
    some = some_leader;
  }
