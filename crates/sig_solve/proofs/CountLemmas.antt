-- Lemmas on the share of solving.
use Rattle.sig_solve.proofs.Common.{◌≡◌, ◌<◌, ◌≤◌, ◌+◌, ◌-◌, ◌*◌, ◌^◌, ◌⊎◌, inl, inr, ℕ, Bool, true, false, cond, eqb, count_by, List, [], ◌∷◌, length, filter, get_or, refl, sym, ap, ◌∙◌, subst, arith, zero, suc, Result, Ok, Err, IfErr, IsErrAnd, range_with_len, mul-le-mul_left, mul-le-mul_right, pow_mono, cases_lt, false≢true, length-filter, Kernel, conditions_of, is_condition, signal_id, AreLeast, StoreView, allowance, Share, IsUnknownCount, is_boolean, IsRefusedFor, RelAnswer, RelationBudget, NoRelation, IsFrame, Frame, HasNoRoom, IsFromRelation, IsWithin, calls_of, rest_of_share, share_of, store_refusal, ClockAnswer, filter_same, length-map, within_range}
use Rattle.sig_solve.specs.declared.answer.ClockAnswer.TheVariants.{Budget}
use Rattle.sig_solve.proofs.FrameLemmas.{leader_in}
use Rattle.sig_solve.proofs.ReactionLemmas.{condition_is_boolean}

-- calls keep to a room
pub within_of_share : {T : Type 0} (n : ℕ) (vs : List ℕ) (room : ℕ) (old new : StoreView) (result : Result T ClockAnswer) → n * allowance vs ≤ room → Share n vs old new (store_refusal result) → IsWithin room old new result
within_of_share {T} n vs room old new result le share = record { added = omega (arith, le, share.added); refused = by result share } where
  by : (result : Result T ClockAnswer) → Share n vs old new (store_refusal result) → IfErr result (HasNoRoom old new room)
  by (Err (Budget k)) share = (share.refused.0, let lt = share.refused.1 in omega (arith, lt, le))
  by _ share = tt

pub within_then : {T : Type 0} (a b : ℕ) (old mid new : StoreView) (result : Result T ClockAnswer) → length mid.nodes ≤ length old.nodes + a → IsWithin b mid new result → IsWithin (a + b) old new result
within_then {T} a b old mid new result first rest = record { added = omega (arith, first, rest.added); refused = by result rest.refused } where
  by : (result : Result T ClockAnswer) → IfErr result (HasNoRoom mid new b) → IfErr result (HasNoRoom old new (a + b))
  by (Err (Budget k)) room = (room.0, let lt = room.1 in omega (arith, lt, first))
  by _ room = tt

pub within_relation : {T : Type 0} (a b : ℕ) (old new : StoreView) (result : Result T ClockAnswer) (e : RelAnswer) → length new.nodes ≤ length old.nodes + a → IsRefusedFor old new a e → IsErrAnd result (λ d. IsFromRelation e d) → IsWithin (a + b) old new result
within_relation a b old new (Ok x) e added refused is = absurd is
within_relation a b old new (Err d) (RelationBudget n) added refused is = record { added = omega (arith, added); refused = subst (λ x. HasNoRoom old new (a + b) x) (sym is) (refused.0, let lt = refused.1 in omega (arith, lt)) }
within_relation a b old new (Err d) NoRelation added refused is = record { added = omega (arith, added); refused = subst (λ x. HasNoRoom old new (a + b) x) (sym is) tt }

pub within_equal : {T : Type 0} (a b : ℕ) (old new : StoreView) (result : Result T ClockAnswer) → a ≡ b → IsWithin a old new result → IsWithin b old new result
within_equal a b old new result same within = subst (λ n. IsWithin n old new result) same within

pub halves : (kernel : Kernel) (u : ℕ) → rest_of_share kernel u + rest_of_share kernel u ≡ share_of kernel u
halves kernel u = by (2 ^ u) (length kernel.equations + u * u * u) where
  by : (p x : ℕ) → p * 30 * x + p * 30 * x ≡ p * 60 * x
  by p x = omega arith

-- so many calls are few
few_calls : (m c k : ℕ) → c ≤ suc m → k ≤ m → 1 + calls_of c k (suc m) ≤ 30 * (suc m * suc m * suc m)
few_calls m c k le_c le_k =
    let a : (3 + 2 * suc m) * c ≤ (3 + 2 * suc m) * suc m = mul-le-mul_left (3 + 2 * suc m) le_c in
    let b : (3 + 2 * suc m) * c * c ≤ (3 + 2 * suc m) * c * suc m = mul-le-mul_left ((3 + 2 * suc m) * c) le_c in
    let d : (3 + 2 * suc m) * c * suc m ≤ (3 + 2 * suc m) * suc m * suc m = mul-le-mul_right (suc m) a in
    let e : (5 + 2 * suc m) * k ≤ (5 + 2 * suc m) * m = mul-le-mul_left (5 + 2 * suc m) le_k in
    let f : (2 + 2 * suc m) * c ≤ (2 + 2 * suc m) * suc m = mul-le-mul_left (2 + 2 * suc m) le_c in
    let total : 1 + (2 + (3 + 2 * suc m) * c * c + (5 + 2 * suc m) * k + (2 + 2 * suc m) * c) ≤ 3 + (3 + 2 * suc m) * suc m * suc m + (5 + 2 * suc m) * m + (2 + 2 * suc m) * suc m = sums b d e f in
    let bound = polynomial m in
    omega (arith, total, bound)
  where
    sums : {x y z w v p q : ℕ} → x ≤ y → y ≤ z → w ≤ v → p ≤ q → 1 + (2 + x + w + p) ≤ 3 + z + v + q
    sums one two three four = omega (arith, one, two, three, four)

    polynomial : (m : ℕ) → 3 + (3 + 2 * suc m) * suc m * suc m + (5 + 2 * suc m) * m + (2 + 2 * suc m) * suc m ≤ 30 * (suc m * suc m * suc m)
    polynomial m = omega arith

-- fewer variables make fewer calls
calls_rise : (c k n u : ℕ) → n ≤ u → 1 + calls_of c k n ≤ 1 + calls_of c k u
calls_rise c k n u le =
    let a : 3 + 2 * n ≤ 3 + 2 * u = omega (arith, le) in
    let b : (3 + 2 * n) * c ≤ (3 + 2 * u) * c = mul-le-mul_right c a in
    let d : (3 + 2 * n) * c * c ≤ (3 + 2 * u) * c * c = mul-le-mul_right c b in
    let e : (5 + 2 * n) * k ≤ (5 + 2 * u) * k = mul-le-mul_right k (omega (arith, le)) in
    let f : (2 + 2 * n) * c ≤ (2 + 2 * u) * c = mul-le-mul_right c (omega (arith, le)) in
    sums d e f
  where
    sums : {x y z w v p : ℕ} → x ≤ y → z ≤ w → v ≤ p → 1 + (2 + x + z + v) ≤ 1 + (2 + y + w + p)
    sums one two three = omega (arith, one, two, three)

fit_last : (n x p a q : ℕ) → n * a ≤ n * p → n * p ≤ 30 * x * p → n * a ≤ p * 30 * (q + x)
fit_last n x p a q one two = omega (arith, one, two)

fit : (n x p a q : ℕ) → n ≤ 30 * x → a ≤ p → n * a ≤ p * 30 * (q + x)
fit n x p a q few low = fit_last n x p a q (mul-le-mul_left n low) (mul-le-mul_right p few)

pub calls_fit : (n u c k q : ℕ) (vs : List ℕ) → length vs ≡ n → n ≤ u → c + k ≤ u → ((u ≡ 0) ⊎ (1 ≤ c)) → (1 + calls_of c k n) * allowance vs ≤ 2 ^ u * 30 * (q + u * u * u)
calls_fit n zero c k q vs count few le some =
    let zero_of : length vs ≡ 0 = omega (arith, count, few) in
    let none : allowance vs ≡ 0 = ap (λ m. 2 ^ m - 1) zero_of in
    subst (λ m. (1 + calls_of c k n) * m ≤ 2 ^ 0 * 30 * (q + 0 * 0 * 0)) (sym none) (let zero_is : (1 + calls_of c k n) * 0 ≡ 0 = times_none (1 + calls_of c k n) in omega (arith, zero_is))
  where
    times_none : (n : ℕ) → n * 0 ≡ 0
    times_none n = omega arith
calls_fit n (suc m) c k q vs count few le (inl none) = absurd (omega (arith, none))
calls_fit n (suc m) c k q vs count few le (inr pos) =
    let low : 1 + calls_of c k n ≤ 30 * (suc m * suc m * suc m) =
    (let rise = calls_rise c k n (suc m) few in let bound = few_calls m c k (omega (arith, le)) (omega (arith, le, pos)) in omega (arith, rise, bound)) in
    let wide : 2 ^ length vs ≤ 2 ^ suc m = pow_mono (omega (arith, count, few)) in
    fit (1 + calls_of c k n) (suc m * suc m * suc m) (2 ^ suc m) (allowance vs) q low (omega (arith, wide))

-- counts of a frame
filter_fewer : (p q : ℕ → Bool) (xs : List ℕ) → ((x : ℕ) → p x ≡ true → q x ≡ true) → length (filter p xs) ≤ length (filter q xs)
filter_fewer p q [] wider = omega arith
filter_fewer p q (x ∷ xs) wider = by (p x) (q x) (wider x) (filter_fewer p q xs wider) where
  by : (a b : Bool) → (a ≡ true → b ≡ true) → length (filter p xs) ≤ length (filter q xs) → length (cond a (x ∷ filter p xs) (filter p xs)) ≤ length (cond b (x ∷ filter q xs) (filter q xs))
  by true true h rest = omega (arith, rest)
  by true false h rest = absurd (false≢true (h refl))
  by false true h rest = omega (arith, rest)
  by false false h rest = rest

pub least_one : (kernel : Kernel) (a b : List ℕ) → AreLeast kernel a → AreLeast kernel b → (s : ℕ) → s < length kernel.signals → get_or a s 0 ≡ get_or b s 0
least_one kernel a b is_a is_b s lt = omega (arith, is_a.least s (get_or b s 0) lt (is_b.same s lt), is_b.least s (get_or a s 0) lt (is_a.same s lt))

module _ (frame : Frame) (is : IsFrame frame) (u : ℕ) (count : IsUnknownCount frame.kernel.now u) where
  leaders_count : length frame.leaders.items ≡ count_by (λ s. eqb (get_or count.0 s 0) s) (range_with_len 0 (length frame.kernel.now.signals))
  leaders_count =
      let range = range_with_len 0 (length frame.kernel.now.signals) in
      ap length is.leaders ∙ ap (λ n. length (filter (λ s. eqb (get_or frame.least.items s 0) s) (range_with_len 0 n))) is.least.count
      ∙ filter_same (λ s. eqb (get_or frame.least.items s 0) s) (λ s. eqb (get_or count.0 s 0) s) range (λ s there. ap (λ k. eqb k s) (least_one frame.kernel.now frame.least.items count.0 is.least count.1 s (within_range (length frame.kernel.now.signals) s there)))
      ∙ length-filter (λ s. eqb (get_or count.0 s 0) s) range

  conditions_fewer : length (conditions_of frame.kernel.now) ≤ count_by (is_boolean frame.kernel.now) (range_with_len 0 (length frame.kernel.now.signals))
  conditions_fewer =
      let range = range_with_len 0 (length frame.kernel.now.signals) in
      let few = filter_fewer (is_condition frame.kernel.now) (is_boolean frame.kernel.now) range (λ x is_x. condition_is_boolean frame.kernel.now x is_x) in
      omega (arith, few, length-filter (is_boolean frame.kernel.now) range, length-map (filter (is_condition frame.kernel.now) range) signal_id)

  -- the classes and the conditions are no more than the unknowns
  pub classes_and_conditions : length frame.leaders.items + length (conditions_of frame.kernel.now) ≤ u
  classes_and_conditions = let few = conditions_fewer in let leaders = leaders_count in let sum = count.2 in omega (arith, few, leaders, sum)

  -- where there is an unknown, there is a class
  pub some_class : (u ≡ 0) ⊎ (1 ≤ length frame.leaders.items)
  some_class = by (cases_lt 0 (length frame.kernel.now.signals)) where
    by : ((0 < length frame.kernel.now.signals) ⊎ (length frame.kernel.now.signals ≤ 0)) → (u ≡ 0) ⊎ (1 ≤ length frame.leaders.items)
    by (inl pos) = let there = leader_in frame is 0 pos in inr (omega (arith, there.1))
    by (inr none) =
        let empty : length frame.kernel.now.signals ≡ 0 = omega (arith, none) in
        let classes : count_by (λ s. eqb (get_or count.0 s 0) s) (range_with_len 0 (length frame.kernel.now.signals)) ≡ 0 = ap (λ n. count_by (λ s. eqb (get_or count.0 s 0) s) (range_with_len 0 n)) empty in
        let booleans : count_by (is_boolean frame.kernel.now) (range_with_len 0 (length frame.kernel.now.signals)) ≡ 0 = ap (λ n. count_by (is_boolean frame.kernel.now) (range_with_len 0 n)) empty in
        inl (count.2 ∙ omega (arith, classes, booleans))
