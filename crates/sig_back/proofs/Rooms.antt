-- A kernel within the bound does not run out of nodes.
use Rattle.sig_back.proofs.Common.{◌≡◌, ◌<◌, ◌≤◌, ◌+◌, ◌*◌, ◌^◌, ◌⊎◌, inl, inr, ℕ, Bool, true, false, eqb, List, length, map, filter, get_or, slice_get, sym, ◌∙◌, subst, arith, Some, list_any, range_with_len, mul-le-mul_right, pow_mono, nat_eq_equiv, get_or-map, length-filter, IsDistinct-from_apart, length-le_from_is_member, SigId, NODES, IsBeyondBound, Spends, AreClocks, ClocksView, conditions_of, is_condition, signal_id, HasLayer, IsEarlier, one_layer, Keeps, StoreView, Node, Kernel, PlanAnswer, NoNodes, IsUnknownCount, is_boolean, share_of, condition_is_boolean, condition_is_signal, mapped_from, one_passes, passes_one, ne_eqb, slice_get-get_or, in_filter, in_range, length-map}
use Rattle.sig_plan.specs.Shares.{IsRefusedFor}

number : SigId → ℕ
number c = c.0

-- what comes earlier is another condition
never_earlier : (kernel : Kernel) (c d : ℕ) → c ≡ d → IsEarlier kernel c d → ⊥
never_earlier kernel c d same is = by is.before where
  layers : is.layer ≡ is.later_layer
  layers = one_layer kernel d is.layer is.later_layer (subst (λ n. HasLayer kernel n is.layer) same is.has) is.later_has

  by : (is.layer < is.later_layer) ⊎ ((is.layer ≡ is.later_layer) × (c < d)) → ⊥
  by (inl less) = omega (arith, less, layers)
  by (inr (e, less)) = omega (arith, less, same)

-- the conditions in their order are no more than numbers of signals that hold of each condition
fewer_conditions : (kernel : Kernel) (nodes : List Node) (clocks : ClocksView) → AreClocks kernel nodes clocks → (p : ℕ → Bool) → ((x : ℕ) → is_condition kernel x ≡ true → p x ≡ true)
    → length clocks.conditions ≤ length (filter p (range_with_len 0 (length kernel.signals)))
unfolding number
fewer_conditions kernel nodes clocks are p holds =
    let fewer : length own ≤ length wide = length-le_from_is_member nat_eq_equiv own wide (IsDistinct-from_apart eqb own apart) among in
    omega (arith, fewer, length-map clocks.conditions number)
  where
    range : List ℕ
    range = range_with_len 0 (length kernel.signals)

    own : List ℕ
    own = map number clocks.conditions

    wide : List ℕ
    wide = filter p range

    at : (i : ℕ) → i < length own → slice_get clocks.conditions i ≡ Some (get_or clocks.conditions i (signal_id 0))
    at i lt = slice_get-get_or clocks.conditions i (signal_id 0) (omega (arith, lt, length-map clocks.conditions number))

    own_at : (i d : ℕ) → i < length own → get_or own i d ≡ number (get_or clocks.conditions i (signal_id 0))
    own_at i d lt = get_or-map number clocks.conditions i (signal_id 0) d (omega (arith, lt, length-map clocks.conditions number))

    apart : (i j d : ℕ) → i < j → j < length own → eqb (get_or own i d) (get_or own j d) ≡ false
    apart i j d less lt = ne_eqb (get_or own i d) (get_or own j d) (λ same.
        never_earlier kernel _ _ (sym (own_at i d (omega (arith, less, lt))) ∙ same ∙ own_at j d lt)
        (are.conditions.order i j _ _ less (at i (omega (arith, less, lt))) (at j lt)))

    among : (q : ℕ) → list_any (eqb q) own ≡ true → list_any (eqb q) wide ≡ true
    among q there =
        let (x, in_own, same) = passes_one (eqb q) own there in
        let (c, in_conditions, e) = mapped_from number clocks.conditions x in_own in
        let is_x : is_condition kernel x ≡ true = subst (λ n. is_condition kernel n ≡ true) (sym e) ((are.conditions.all c).0 in_conditions) in
        one_passes (eqb q) wide x (in_filter p range x (in_range (length kernel.signals) x (condition_is_signal kernel x is_x)) (holds x is_x)) same

-- the conditions are no more than the booleans, and so no more than the unknowns
pub few_conditions : (kernel : Kernel) (nodes : List Node) (clocks : ClocksView) → AreClocks kernel nodes clocks
    → (unknowns : ℕ) → IsUnknownCount kernel unknowns → length clocks.conditions ≤ unknowns
few_conditions kernel nodes clocks are unknowns (least, is, sum) =
    omega (arith, fewer_conditions kernel nodes clocks are (is_boolean kernel) (λ x is_x. condition_is_boolean kernel x is_x), length-filter (is_boolean kernel) (range_with_len 0 (length kernel.signals)), sum)

-- no condition is counted twice
pub all_conditions : (kernel : Kernel) (nodes : List Node) (clocks : ClocksView) → AreClocks kernel nodes clocks → length clocks.conditions ≤ length (conditions_of kernel)
all_conditions kernel nodes clocks are =
    omega (arith, fewer_conditions kernel nodes clocks are (is_condition kernel) (λ x is_x. is_x), length-map (filter (is_condition kernel) (range_with_len 0 (length kernel.signals))) signal_id)

-- a kernel within a bound has room for the clocks and the operations
within_bound : (p x : ℕ) → p * 36 * x + p * 3 * x ≡ p * 39 * x
within_bound p x = omega arith

-- powers rise
powers_rise : (a b : ℕ) → a ≤ b → 2 ^ a ≤ 2 ^ b
powers_rise a b le = pow_mono le

-- three calls over fewer conditions
fewer_calls : (p r x room : ℕ) → room ≤ p * 3 * x → p ≤ r → room ≤ r * 3 * x
fewer_calls p r x room small le =
    let one : p * 3 ≤ r * 3 = mul-le-mul_right 3 le in
    let two : p * 3 * x ≤ r * 3 * x = mul-le-mul_right x one in
    omega (arith, small, two)

-- and so do the operations
pub no_room_for_operations : (kernel : Kernel) (old new : StoreView) (clocks : ClocksView) (n room : ℕ) → AreClocks kernel old.nodes clocks → Spends kernel old → Keeps old new
    → ((unknowns : ℕ) → length clocks.conditions ≤ unknowns → room ≤ share_of kernel unknowns) → room ≤ 2 ^ length clocks.conditions * 3 * (length kernel.equations + 1)
    → (answer : PlanAnswer) → answer ≡ NoNodes n → IsRefusedFor old new room answer → IsBeyondBound kernel
no_room_for_operations kernel old new clocks n room are spent kept small few answer named refused = λ meets.
    let (full, less) = subst (IsRefusedFor old new room) named refused in
    let is : n ≡ NODES = sym full.0 ∙ kept.made_for ∙ spent.made_for in
    elim meets [
      | inl at ↦
          let held = spent.share at.unknowns at.counted in
          let needed = small at.unknowns (few_conditions kernel old.nodes clocks are at.unknowns at.counted) in
          let fits = at.fits in
          omega (arith, less, held, needed, fits, is)
      | inr at ↦
          let held = spent.triangular at.triangular in
          let needed = fewer_calls (2 ^ length clocks.conditions) (2 ^ length (conditions_of kernel)) (length kernel.equations + 1) room few (powers_rise (length clocks.conditions) (length (conditions_of kernel)) (all_conditions kernel old.nodes clocks are)) in
          let fits = at.fits in
          let both = within_bound (2 ^ length (conditions_of kernel)) (length kernel.equations + 1) in
          omega (arith, less, held, needed, fits, is, both)
    ]
