-- Functions of other variables, and how many nodes they add.
use Rattle.sig_dd.proofs.Common.{◌≡◌, ◌≢◌, ℕ, zero, suc, ◌+◌, ◌-◌, ◌*◌, ◌^◌, ◌<◌, ◌≤◌, Bool, true, false, List, [], ◌∷◌, inl, inr, None, Some, Option, IfSome, Result, Ok, Err, IfOk, length, map, slice_get, refl, sym, ◌∙◌, ap, subst, arith, Contains, if◌then◌else◌, slice_index_or, HashMap, get, cases_eq, length-map, get_or_from_slice_get, slice_get-get_or, slice_get-map, option_map, add-mul, mul-le-mul, mul-suc, mul_assoc, one-mul, pow-suc, suc-mul, pow_mono, Diagram, Constant, Choice, Depends, Tests, truth_of, value_at, with_truth, Holds, IsFull, IsReduced, IsRefOf, IsStore, Keeps, Spans, StoreView, allowance, diagram, node_of, test, AreRenamed, IsChoiceBy, IsRenamed, RefTestsOnly, truth_in, IsRefused, Share, Shares, SpanAll, refusal, DdAnswer, Budget, OutOfMemory, Node, Ref, same_truth, IfOk-weaker}
use Rattle.sig_dd.proofs.CallerLemmas.{Agree-kept, Holds-kept, IsRefOf-kept, Spans-of}
use Rattle.sig_dd.proofs.Canonical.{children_held, children_later, proper}
use Rattle.sig_dd.proofs.Counts.{Contains-without, length-without_contained, without}
use Rattle.sig_dd.proofs.Dependence.{variable_depends}
use Rattle.sig_dd.proofs.Functions.{Spans-append}
use Rattle.sig_dd.proofs.Kept.{tests_back}
use Rattle.sig_dd.proofs.Sides.{names_node}
use Rattle.sig_dd.proofs.Trees.{Tests-later, truth_of-with_other, value_at-choice}
use Rattle.sig_dd.proofs.Variables.{high_held, tests_node}

-- ---- functions

-- the truth that stands in a variable's place
renamed_truth : (to : List ℕ) (ts : List Bool) (v : ℕ) → truth_of (map (truth_of ts) to) v ≡ truth_in ts (slice_get to v)
renamed_truth [] ts v = refl
renamed_truth (w ∷ to) ts zero = refl
renamed_truth (w ∷ to) ts (suc v) = renamed_truth to ts v

-- the value of a node
node_value : (nodes : List Node) → IsReduced nodes → (f : Ref) → Holds nodes f → (n : Node) → Some n ≡ node_of nodes f → (ts : List Bool) → test nodes f ts ≡ (if truth_of ts n.variable then test nodes n.high ts else test nodes n.low ts)
unfolding value_at
node_value nodes reduced f held n is ts = let (i, p) = names_node nodes reduced f held n is in ap (λ d. value_at d ts) p.diagram_is

-- a constant is itself, whatever the variables are
constant_same : (d : Diagram) → ((v : ℕ) → Tests d v → ⊥) → (s t : List Bool) → value_at d s ≡ value_at d t
unfolding value_at Tests
constant_same (Constant b) none s t = refl
constant_same (Choice v low high) none s t = absurd (none v (inl refl))

pub constant_renamed : (nodes : List Node) (to : List ℕ) (f : Ref) → Holds nodes f → ((v : ℕ) → Tests (diagram nodes f) v → ⊥) → IsRenamed nodes nodes to f f
constant_renamed nodes to f held none = record { holds = held; function = λ ts. constant_same (diagram nodes f) none ts (map (truth_of ts) to) }

-- a choice whose variable has one truth in both lists differs where a side does
differ_side : (v : ℕ) (low high : Diagram) (s t : List Bool) → truth_of s v ≡ truth_of t v → (b : Bool) → truth_of s v ≡ b
    → (value_at low s ≢ value_at low t → (u : ℕ) × Tests low u × (truth_of s u ≢ truth_of t u)) → (value_at high s ≢ value_at high t → (u : ℕ) × Tests high u × (truth_of s u ≢ truth_of t u))
    → value_at (Choice v low high) s ≢ value_at (Choice v low high) t → (u : ℕ) × Tests (Choice v low high) u × (truth_of s u ≢ truth_of t u)
unfolding Tests
differ_side v low high s t e true at in_low in_high ne =
    let (u, tested, apart) = in_high (λ h. ne (value_at-choice v low high s true at ∙ h ∙ sym (value_at-choice v low high t true (sym e ∙ at)))) in
    (u, inr (inr tested), apart)
differ_side v low high s t e false at in_low in_high ne =
    let (u, tested, apart) = in_low (λ h. ne (value_at-choice v low high s false at ∙ h ∙ sym (value_at-choice v low high t false (sym e ∙ at)))) in
    (u, inr (inl tested), apart)

-- where two lists of truths give a diagram two values, they differ at a variable that it tests
differ_tested : (d : Diagram) (s t : List Bool) → value_at d s ≢ value_at d t → (v : ℕ) × Tests d v × (truth_of s v ≢ truth_of t v)
unfolding value_at Tests
differ_tested (Constant b) s t ne = absurd (ne refl)
differ_tested (Choice v low high) s t ne = elim (same_truth (truth_of s v) (truth_of t v)) [
  | inr apart ↦ (v, inl refl, apart)
  | inl e ↦ differ_side v low high s t e (truth_of s v) refl (differ_tested low s t) (differ_tested high s t) ne
]

named_target : (ts : List Bool) (w : ℕ) (o : Option ℕ) → truth_in (with_truth ts w false) o ≢ truth_in (with_truth ts w true) o → o ≡ Some w
named_target ts w None ne = absurd (ne refl)
named_target ts w (Some u) ne = elim (cases_eq u w) [
  | inl e ↦ ap Some e
  | inr apart ↦ absurd (ne (truth_of-with_other ts w false u apart ∙ sym (truth_of-with_other ts w true u apart)))
]

-- a renamed function depends on the new variables of those that the function tests
pub renamed_depends : (old new : List Node) (to : List ℕ) (f r : Ref) → IsRenamed old new to f r → (w : ℕ) → Depends (test new r) w → (v : ℕ) × Tests (diagram old f) v × (slice_get to v ≡ Some w)
renamed_depends old new to f r is w (ts, ne) =
    let (v, tested, apart) = differ_tested (diagram old f) (map (truth_of (with_truth ts w false)) to) (map (truth_of (with_truth ts w true)) to) (λ e. ne (is.function _ ∙ e ∙ sym (is.function _))) in
    (v, tested, named_target ts w (slice_get to v) (λ e. apart (renamed_truth to (with_truth ts w false) v ∙ e ∙ sym (renamed_truth to (with_truth ts w true) v))))

-- ---- what stays as nodes are added

module _ (old new : StoreView) (kept : Keeps old new) (to : List ℕ) where
  -- the function of the newer nodes is that of the older ones
  pub renamed_back : (nodes : List Node) (f r : Ref) → Holds old.nodes f → IsRenamed new.nodes nodes to f r → IsRenamed old.nodes nodes to f r
  renamed_back nodes f r held is = record { holds = is.holds; function = λ ts. is.function ts ∙ Agree-kept old new kept f held (map (truth_of ts) to) }

  pub renamed_on : (nodes : List Node) (f r : Ref) → Holds old.nodes f → IsRenamed old.nodes nodes to f r → IsRenamed new.nodes nodes to f r
  renamed_on nodes f r held is = record { holds = is.holds; function = λ ts. is.function ts ∙ sym (Agree-kept old new kept f held (map (truth_of ts) to)) }

  pub renamed_kept : (nodes : List Node) (f r : Ref) → IsRenamed nodes old.nodes to f r → IsRenamed nodes new.nodes to f r
  renamed_kept nodes f r is = IsRefOf-kept old new kept (λ ts. test nodes f (map (truth_of ts) to)) r is

  entry_kept : (f : Ref) (o : Option Ref) → IfSome o (λ r. Holds old.nodes f × IsRenamed old.nodes old.nodes to f r) → IfSome o (λ r. Holds new.nodes f × IsRenamed new.nodes new.nodes to f r)
  entry_kept f None h = tt
  entry_kept f (Some r) h = (Holds-kept old new kept f h.0, renamed_on new.nodes f r h.0 (renamed_kept old.nodes f r h.1))

  pub table_kept : {S : Type 0} (eq : Ref → Ref → Bool) (table : HashMap Ref Ref S) → AreRenamed eq old.nodes to table → AreRenamed eq new.nodes to table
  table_kept eq table are f = entry_kept f (get eq table f) (are f)

-- ---- a node and its children

module _ (old mid hi new : StoreView) (store : IsStore old) (kept : Keeps old mid) (more : Keeps mid hi) (to : List ℕ) (f : Ref) (held : Holds old.nodes f) (n : Node) (is : Some n ≡ node_of old.nodes f)
    (low high : Ref) (is_low : IsRenamed old.nodes mid.nodes to n.low low) (is_high : IsRenamed mid.nodes hi.nodes to n.high high) where
  high_there : Holds old.nodes n.high
  high_there = high_held old.nodes store.reduced f held n is

  high_renamed : IsRenamed old.nodes hi.nodes to n.high high
  high_renamed = renamed_back old mid kept to hi.nodes n.high high high_there is_high

  low_renamed : IsRenamed old.nodes hi.nodes to n.low low
  low_renamed = renamed_kept mid hi more to old.nodes n.low low is_low

  pub renamed_node : (r : Ref) → IsChoiceBy hi.nodes new.nodes (slice_get to n.variable) low high r → IsRenamed old.nodes new.nodes to f r
  renamed_node r choice = record {
    holds = choice.holds;
    function = λ ts.
        let us = map (truth_of ts) to in
        choice.function ts
        ∙ ap (λ x. if truth_in ts (slice_get to n.variable) then x else test hi.nodes low ts) (high_renamed.function ts)
        ∙ ap (λ x. if truth_in ts (slice_get to n.variable) then test old.nodes n.high us else x) (low_renamed.function ts)
        ∙ ap (λ b. if b then test old.nodes n.high us else test old.nodes n.low us) (sym (renamed_truth to ts n.variable))
        ∙ sym (node_value old.nodes store.reduced f held n is us);
  }

power_above : (k : ℕ) → suc k ≤ 2 ^ k
power_above zero = omega arith
power_above (suc k) = let below = power_above k in let twice = pow-suc 2 k in omega (arith, below, twice)

power_positive : (k : ℕ) → 1 ≤ 2 ^ k
power_positive k = let above = power_above k in omega (arith, above)

-- ---- the choice by a variable

module _ (old mid : StoreView) (kept : Keeps old mid) (v : ℕ) (chosen low high : Ref) (is : IsRefOf mid.nodes (λ ts. truth_of ts v) chosen) (low_held : Holds old.nodes low) (high_held : Holds old.nodes high) where
  chosen_by : (new : StoreView) (r : Ref) → IsRefOf new.nodes (λ ts. if test mid.nodes chosen ts then test mid.nodes high ts else test mid.nodes low ts) r → IsChoiceBy old.nodes new.nodes (Some v) low high r
  chosen_by new r picks = record {
    holds = picks.holds;
    function = λ ts.
        picks.function ts
        ∙ ap (λ b. if b then test mid.nodes high ts else test mid.nodes low ts) (is.function ts)
        ∙ ap (λ x. if truth_of ts v then x else test mid.nodes low ts) (Agree-kept old mid kept high high_held ts)
        ∙ ap (λ x. if truth_of ts v then test old.nodes high ts else x) (Agree-kept old mid kept low low_held ts);
  }

  pub choice_made : (o : Option ℕ) → Some v ≡ o → (new : StoreView) (result : Result Ref DdAnswer) → IfOk result (IsRefOf new.nodes (λ ts. if test mid.nodes chosen ts then test mid.nodes high ts else test mid.nodes low ts))
      → IfOk result (IsChoiceBy old.nodes new.nodes o low high)
  choice_made o same new result made = IfOk-weaker result _ _ (λ r picks. subst (λ o. IsChoiceBy old.nodes new.nodes o low high r) same (chosen_by new r picks)) made

  -- what the three operands depend on
  pub operands_span : (vs : List ℕ) (o : Option ℕ) → Some v ≡ o → Spans old.nodes low vs → Spans old.nodes high vs → IfSome o (Contains vs) → SpanAll mid.nodes (chosen ∷ high ∷ low ∷ []) vs
  operands_span vs o same one two among =
      let own : Contains vs v = subst (λ o. IfSome o (Contains vs)) (sym same) among in (
        Spans-of mid.nodes (λ ts. truth_of ts v) chosen is vs (λ u d. subst (Contains vs) (sym (variable_depends v u d)) own),
        (Spans-append old mid kept high high_held vs two, (Spans-append old mid kept low low_held vs one, tt)),
      )

-- the node of a variable, and the choice of it
module _ (v : ℕ) (vs : List ℕ) (old mid new : StoreView) (first : Shares 1 [] (v ∷ []) old mid None) where
  one_more : length mid.nodes ≤ length old.nodes + 1
  one_more = let share = first.over (v ∷ []) tt ((0, omega arith, refl), tt) in let added = share.added in omega (arith, added)

  pub choice_within : (why : Option DdAnswer) → Share 1 vs mid new why → length new.nodes ≤ length old.nodes + 2 ^ length vs
  choice_within why share = let one = one_more in let added = share.added in let above = power_positive (length vs) in omega (arith, one, added, above)

  pub choice_refused : {T : Type 0} (result : Result T DdAnswer) → Share 1 vs mid new (refusal result) → (n : ℕ) → result ≡ Err (Budget n) → IsFull new n × (n < length old.nodes + 2 ^ length vs)
  choice_refused result share n is =
      let why : IsFull new n × (n < length mid.nodes + 1 * allowance vs) = subst (λ (r : Result _ DdAnswer). IfSome (refusal r) (IsRefused mid new (1 * allowance vs))) is share.refused in
      let lt = why.1 in
      let one = one_more in
      let above = power_positive (length vs) in
      (why.0, omega (arith, lt, one, above))

-- ---- variables and their new ones

-- the new variable of each of a list, 0 for one that has none
pub targets : List ℕ → List ℕ → List ℕ
targets to vs = map (λ v. slice_index_or to v 0) vs

targets_length : (to vs : List ℕ) → length (targets to vs) ≡ length vs
unfolding targets
targets_length to vs = length-map vs (λ v. slice_index_or to v 0)

targets_has : (to vs : List ℕ) (v w : ℕ) → Contains vs v → slice_get to v ≡ Some w → Contains (targets to vs) w
unfolding targets
targets_has to vs v w (k, lt, e) at =
    let within : k < length (map (λ u. slice_index_or to u 0) vs) = let same = length-map vs (λ u. slice_index_or to u 0) in omega (arith, lt, same) in
    let here : slice_get vs k ≡ Some v = slice_get-get_or vs k v lt ∙ ap Some e in
    let there : slice_get (map (λ u. slice_index_or to u 0) vs) k ≡ Some (slice_index_or to v 0) = slice_get-map (λ u. slice_index_or to u 0) vs k ∙ ap (option_map (λ u. slice_index_or to u 0)) here in
    let target : slice_index_or to v 0 ≡ w = get_or_from_slice_get to v w 0 at in
    (k, within, get_or_from_slice_get _ k w w (there ∙ ap Some target))

first_target : (to vs : List ℕ) (v : ℕ) (o : Option ℕ) → slice_get to v ≡ o → IfSome o (Contains (targets to (v ∷ vs)))
first_target to vs v None e = tt
first_target to vs v (Some w) e = targets_has to (v ∷ vs) v w (0, omega arith, refl) e

module _ (old : StoreView) (store : IsStore old) (f : Ref) (held : Holds old.nodes f) (n : Node) (is : Some n ≡ node_of old.nodes f) (vs : List ℕ) (only : RefTestsOnly old.nodes f vs) where
  -- the variables but the node's own
  abbrev pub rest : List ℕ
  rest = without n.variable vs

  later : (c : Ref) → Holds old.nodes c → (u : ℕ) → suc n.variable ≤ u → ((u : ℕ) → Tests (diagram old.nodes c) u → Tests (diagram old.nodes f) u) → Tests (diagram old.nodes c) u → Contains rest u
  later c there u le below t = Contains-without n.variable u vs (omega (arith, le)) (only u (below u t))

  pub low_only : RefTestsOnly old.nodes n.low rest
  low_only u t =
      let (i, p) = names_node old.nodes store.reduced f held n is in
      let there = children_held old.nodes store.reduced f i n p in
      let starts = children_later old.nodes store.reduced f i n p in
      later n.low there.0 u (Tests-later (diagram old.nodes n.low) (suc n.variable) u (proper old.nodes store.reduced n.low there.0) starts.0 t)
      (λ w tests. tests_node old.nodes store.reduced f held n is w (inr (inl tests))) t

  high_only_old : RefTestsOnly old.nodes n.high rest
  high_only_old u t =
      let (i, p) = names_node old.nodes store.reduced f held n is in
      let there = children_held old.nodes store.reduced f i n p in
      let starts = children_later old.nodes store.reduced f i n p in
      later n.high there.1 u (Tests-later (diagram old.nodes n.high) (suc n.variable) u (proper old.nodes store.reduced n.high there.1) starts.1 t)
      (λ w tests. tests_node old.nodes store.reduced f held n is w (inr (inr tests))) t

  pub high_only : (mid : StoreView) → Keeps old mid → RefTestsOnly mid.nodes n.high rest
  high_only mid kept u t = high_only_old u (tests_back old.nodes kept.added u n.high (high_held old.nodes store.reduced f held n is) (subst (λ ns. Tests (diagram ns n.high) u) kept.nodes t))

  own : Contains vs n.variable
  own = only n.variable (tests_node old.nodes store.reduced f held n is n.variable (inl refl))

  module _ (to : List ℕ) where
    -- the new variables of the node and of those below it
    abbrev pub new_ones : List ℕ
    new_ones = targets to (n.variable ∷ rest)

    pub own_target : IfSome (slice_get to n.variable) (Contains new_ones)
    own_target = first_target to rest n.variable (slice_get to n.variable) refl

    pub child_spans : (nodes : List Node) (c r : Ref) → RefTestsOnly old.nodes c rest → IsRenamed old.nodes nodes to c r → Spans nodes r new_ones
    child_spans nodes c r tests renamed w depends =
        let (v, tested, at) = renamed_depends old.nodes nodes to c r renamed w depends in
        let (k, lt, e) = tests v tested in
        targets_has to (n.variable ∷ rest) v w (suc k, omega (arith, lt), e) at

    pub low_spans : (mid hi : StoreView) → Keeps mid hi → (low : Ref) → IsRenamed old.nodes mid.nodes to n.low low → Spans hi.nodes low new_ones
    low_spans mid hi more low is_low = child_spans hi.nodes n.low low low_only (renamed_kept mid hi more to old.nodes n.low low is_low)

    pub high_spans : (mid hi : StoreView) → Keeps old mid → (high : Ref) → IsRenamed mid.nodes hi.nodes to n.high high → Spans hi.nodes high new_ones
    high_spans mid hi kept high is_high =
        child_spans hi.nodes n.high high high_only_old (renamed_back old mid kept to hi.nodes n.high high (high_held old.nodes store.reduced f held n is) is_high)

    -- ---- how many nodes are added

    count : length new_ones ≡ suc (length rest)
    count = targets_length to (n.variable ∷ rest)

    -- the room of two functions over one variable less, and of the choice between them
    rooms : 2 * (length rest * 2 ^ length rest) + 2 ^ length new_ones ≤ length vs * 2 ^ length vs
    rooms =
        let k : ℕ = length rest in
        let fewer : suc k ≤ length vs = length-without_contained n.variable vs own in
        let wide : suc k * 2 ^ suc k ≤ length vs * 2 ^ length vs = mul-le-mul fewer (pow_mono fewer) in
        let spread : suc k * 2 ^ suc k ≡ k * 2 ^ k * 2 + 2 ^ k * 2 = ap (λ m. suc k * m) (pow-suc 2 k) ∙ suc-mul k (2 ^ k * 2) ∙ ap (λ m. m + 2 ^ k * 2) (sym (mul_assoc k (2 ^ k) 2)) in
        let power : 2 ^ length new_ones ≡ 2 ^ k * 2 = ap (λ m. 2 ^ m) count ∙ pow-suc 2 k in
        omega (arith, wide, spread, power)

    pub within_room : (a b m : ℕ) → a ≤ length old.nodes + length rest * 2 ^ length rest → b ≤ a + length rest * 2 ^ length rest → m ≤ b + 2 ^ length new_ones → m ≤ length old.nodes + length vs * 2 ^ length vs
    within_room a b m first second third = let fit = rooms in omega (arith, first, second, third, fit)

    pub below_room : (a b m : ℕ) → a ≤ length old.nodes + length rest * 2 ^ length rest → b ≤ a + length rest * 2 ^ length rest → m < b + 2 ^ length new_ones → m < length old.nodes + length vs * 2 ^ length vs
    below_room a b m first second third = let fit = rooms in omega (arith, first, second, third, fit)

    pub positive : (m : ℕ) → m < m + 2 ^ length new_ones
    positive m = let one = power_positive (length new_ones) in omega (arith, one)

-- what a call adds is within its share
room_allowed : (vs : List ℕ) → length vs * 2 ^ length vs ≤ (length vs + 1) * allowance vs
room_allowed vs =
    let above = power_above (length vs) in
    let m : ℕ = 2 ^ length vs - 1 in
    let whole : 2 ^ length vs ≡ suc m = omega (arith, above) in
    let spread : length vs * 2 ^ length vs ≡ length vs * m + length vs = ap (λ n. length vs * n) whole ∙ mul-suc (length vs) m in
    let more : (length vs + 1) * m ≡ length vs * m + m = add-mul (length vs) 1 m ∙ ap (λ n. length vs * m + n) (one-mul m) in
    omega (arith, above, spread, more)

pub renamed_share : {T : Type 0} (vs : List ℕ) (old new : StoreView) (result : Result T DdAnswer) → length new.nodes ≤ length old.nodes + length vs * 2 ^ length vs
    → ((n : ℕ) → result ≡ Err (Budget n) → IsFull new n × (n < length old.nodes + length vs * 2 ^ length vs)) → Share (length vs + 1) vs old new (refusal result)
renamed_share vs old new (Ok x) added budget = let room = room_allowed vs in record { added = omega (arith, added, room); refused = tt }
renamed_share vs old new (Err (Budget n)) added budget =
    let room = room_allowed vs in
    let lt = (budget n refl).1 in
    record { added = omega (arith, added, room); refused = ((budget n refl).0, omega (arith, lt, room)) }
renamed_share vs old new (Err OutOfMemory) added budget = let room = room_allowed vs in record { added = omega (arith, added, room); refused = tt }
