-- Relational products, and how many nodes they add.
use Rattle.sig_dd.proofs.Common.{◌≡◌, ◌≢◌, ◌↔◌, ℕ, zero, suc, ◌+◌, ◌-◌, ◌*◌, ◌^◌, ◌<◌, ◌≤◌, Bool, true, false, List, ◌++◌, ◌⊎◌, inl, inr, None, Some, Option, IfSome, Result, Ok, Err, length, refl, sym, ◌∙◌, ap, subst, arith, true≢false, IsTrue, Contains, ◌||◌, if◌then◌else◌, HashMap, get, false≢true, cases_eq, add-mul, mul-suc, mul_assoc, one-mul, pow-suc, suc-mul, pow_mono, Diagram, Constant, Choice, Depends, StartsFrom, Tests, truth_of, value_at, with_truth, HoldsPair, Holds, IsFull, IsReduced, IsStore, Keeps, Spans, StoreView, allowance, diagram, node_of, test, AgreeBut, AreProducts, IsJoined, IsPairProduct, IsPairSide, IsProduct, IsProductSplit, MeetWithout, PairTests, PairTestsOnly, product_room, HasVariable, IsSide, IsRefused, Share, refusal, DdAnswer, Budget, OutOfMemory, Pair, Node, Ref, ProductSplit}
use Rattle.sig_dd.proofs.CallerLemmas.{Agree-kept, Holds-kept}
use Rattle.sig_dd.proofs.Canonical.{proper}
use Rattle.sig_dd.proofs.Counts.{Contains-without, length-without_contained, without}
use Rattle.sig_dd.proofs.Functions.{test-false, test-true}
use Rattle.sig_dd.proofs.Kept.{tests_back}
use Rattle.sig_dd.proofs.Pairs.{side_set, smaller_side}
use Rattle.sig_dd.proofs.Sides.{constant_below, tests_own}
use Rattle.sig_dd.proofs.Trees.{Depends-tests, Tests-later, truth_of-with_other, truth_of-with_same}

-- ---- functions

same_truths : (a b : Bool) → IsTrue a ↔ IsTrue b → a ≡ b
same_truths true true e = refl
same_truths true false e = sym (e.0 refl)
same_truths false true e = e.1 refl
same_truths false false e = refl

-- functions that are equal have one product
meet_same : (forgotten : List Bool) (f g h k : List Bool → Bool) → ((ts : List Bool) → f ts ≡ h ts) → ((ts : List Bool) → g ts ≡ k ts)
    → (ts : List Bool) → MeetWithout forgotten f g ts → MeetWithout forgotten h k ts
meet_same forgotten f g h k one two ts (others, agree, is, other) = (others, agree, sym (one others) ∙ is, sym (two others) ∙ other)

pub product_same : (nodes : List Node) (forgotten : List Bool) (f g h k : List Bool → Bool) → ((ts : List Bool) → f ts ≡ h ts) → ((ts : List Bool) → g ts ≡ k ts)
    → (r : Ref) → IsProduct nodes forgotten f g r → IsProduct nodes forgotten h k r
product_same nodes forgotten f g h k one two r is = record {
  holds = is.holds;
  function = λ ts. (λ t. meet_same forgotten f g h k one two ts ((is.function ts).0 t), λ m. (is.function ts).1 (meet_same forgotten h k f g (λ us. sym (one us)) (λ us. sym (two us)) ts m));
}

-- a forgotten variable makes no difference
agree_forgotten : (forgotten : List Bool) (u : ℕ) (ts others : List Bool) (x y : Bool) → truth_of forgotten u ≡ true → AgreeBut forgotten (with_truth ts u x) others → AgreeBut forgotten (with_truth ts u y) others
agree_forgotten forgotten u ts others x y is agree w not = elim (cases_eq w u) [
  | inl same ↦ absurd (true≢false (sym is ∙ (ap (truth_of forgotten) (sym same) ∙ not)))
  | inr apart ↦ truth_of-with_other ts u y w apart ∙ (sym (truth_of-with_other ts u x w apart) ∙ agree w not)
]

module _ (nodes : List Node) (forgotten : List Bool) (f g : List Bool → Bool) (r : Ref) (is : IsProduct nodes forgotten f g r) where
  forgotten_idle : (u : ℕ) → truth_of forgotten u ≡ true → (ts : List Bool) (x y : Bool) → IsTrue (test nodes r (with_truth ts u x)) → IsTrue (test nodes r (with_truth ts u y))
  forgotten_idle u gone ts x y t =
      let (others, agree, one, two) = (is.function (with_truth ts u x)).0 t in
      (is.function (with_truth ts u y)).1 (others, agree_forgotten forgotten u ts others x y gone agree, one, two)

  forgotten_by : (u : ℕ) (b : Bool) → truth_of forgotten u ≡ b → Depends (test nodes r) u → b ≡ false
  forgotten_by u false e d = refl
  forgotten_by u true e (ts, ne) = absurd (ne (same_truths _ _ (forgotten_idle u e ts false true, forgotten_idle u e ts true false)))

  -- a product depends on no forgotten variable
  pub product_forgets : (u : ℕ) → Depends (test nodes r) u → truth_of forgotten u ≡ false
  product_forgets u d = forgotten_by u (truth_of forgotten u) refl d

  -- nor on one that makes no difference to its parts
  agree_set : (u : ℕ) (ts others : List Bool) (x y : Bool) → AgreeBut forgotten (with_truth ts u x) others → AgreeBut forgotten (with_truth ts u y) (with_truth others u y)
  agree_set u ts others x y agree w not = elim (cases_eq w u) [
    | inl same ↦ subst (λ v. truth_of (with_truth ts u y) v ≡ truth_of (with_truth others u y) v) (sym same) (truth_of-with_same ts u y ∙ sym (truth_of-with_same others u y))
    | inr apart ↦ truth_of-with_other ts u y w apart ∙ (sym (truth_of-with_other ts u x w apart) ∙ (agree w not ∙ sym (truth_of-with_other others u y w apart)))
  ]

  idle_parts : (u : ℕ) → ((ts : List Bool) (x : Bool) → f (with_truth ts u x) ≡ f ts) → ((ts : List Bool) (x : Bool) → g (with_truth ts u x) ≡ g ts)
      → (ts : List Bool) (x y : Bool) → IsTrue (test nodes r (with_truth ts u x)) → IsTrue (test nodes r (with_truth ts u y))
  idle_parts u one two ts x y t =
      let (others, agree, is_f, is_g) = (is.function (with_truth ts u x)).0 t in
      (is.function (with_truth ts u y)).1 (with_truth others u y, agree_set u ts others x y agree, one others y ∙ is_f, two others y ∙ is_g)

  pub product_idle : (u : ℕ) → ((ts : List Bool) (x : Bool) → f (with_truth ts u x) ≡ f ts) → ((ts : List Bool) (x : Bool) → g (with_truth ts u x) ≡ g ts) → Depends (test nodes r) u → ⊥
  product_idle u one two (ts, ne) = ne (same_truths _ _ (idle_parts u one two ts false true, idle_parts u one two ts true false))

-- a variable that a diagram does not test makes no difference
untested : (d : Diagram) (v : ℕ) → (Tests d v → ⊥) → (ts : List Bool) (x : Bool) → value_at d (with_truth ts v x) ≡ value_at d ts
unfolding value_at Tests
untested (Constant b) v none ts x = refl
untested (Choice u low high) v none ts x =
    rw (truth_of-with_other ts v x u (λ e. none (inl (sym e))))
    (rw (untested low v (λ t. none (inr (inl t))) ts x, untested high v (λ t. none (inr (inr t))) ts x))

tests_or_not : (d : Diagram) (v : ℕ) → Tests d v ⊎ (Tests d v → ⊥)
unfolding Tests
tests_or_not (Constant b) v = inr (λ t. t)
tests_or_not (Choice u low high) v = elim (cases_eq v u) [
  | inl e ↦ inl (inl e)
  | inr apart ↦ elim (tests_or_not low v) [
    | inl t ↦ inl (inr (inl t))
    | inr lacks ↦ elim (tests_or_not high v) [
      | inl t ↦ inl (inr (inr t))
      | inr none ↦ inr (λ t. elim t [ inl e ↦ apart e | inr (inl a) ↦ lacks a | inr (inr b) ↦ none b ])
    ]
  ]
]

-- what a product depends on, one of its parts tests
pub product_tests : (old nodes : List Node) (forgotten : List Bool) (p : Pair) (r : Ref) → IsProduct nodes forgotten (test old p.first) (test old p.second) r → (u : ℕ) → Depends (test nodes r) u → PairTests old p u
product_tests old nodes forgotten p r is u d = elim (tests_or_not (diagram old p.first) u) [
  | inl t ↦ inl t
  | inr lacks ↦ elim (tests_or_not (diagram old p.second) u) [
    | inl t ↦ inr t
    | inr none ↦ absurd (product_idle nodes forgotten (test old p.first) (test old p.second) r is u (untested (diagram old p.first) u lacks) (untested (diagram old p.second) u none) d)
  ]
]

-- ---- a pair and its sides

module _ (nodes : List Node) (reduced : IsReduced nodes) (p q : Pair) (v : ℕ) (x : Bool) (side : IsPairSide nodes p v x q) where
  pub side_held : HoldsPair nodes q
  side_held = (side.first.holds, side.second.holds)

  -- a side tests later variables of the pair alone
  pub side_later : (u : ℕ) → PairTests nodes q u → suc v ≤ u
  side_later u (inl t) = Tests-later (diagram nodes q.first) (suc v) u (proper nodes reduced q.first side.first.holds) side.first.later t
  side_later u (inr t) = Tests-later (diagram nodes q.second) (suc v) u (proper nodes reduced q.second side.second.holds) side.second.later t

  side_tested : (u : ℕ) → PairTests nodes q u → PairTests nodes p u
  side_tested u (inl t) = inl (side.first.tests u t)
  side_tested u (inr t) = inr (side.second.tests u t)

  pub side_only : (vs : List ℕ) → PairTestsOnly nodes p vs → PairTestsOnly nodes q (without v vs)
  side_only vs only u t = let later = side_later u t in Contains-without v u vs (omega (arith, later)) (only u (side_tested u t))

  -- where the variable is forgotten, the pair meets where a side does
  pub meets_forgotten : (forgotten ts : List Bool) → truth_of forgotten v ≡ true → MeetWithout forgotten (test nodes q.first) (test nodes q.second) ts → MeetWithout forgotten (test nodes p.first) (test nodes p.second) ts
  meets_forgotten forgotten ts gone (others, agree, one, two) = (
    with_truth others v x,
    λ w not. elim (cases_eq w v) [
      | inl same ↦ absurd (true≢false (sym gone ∙ (ap (truth_of forgotten) (sym same) ∙ not)))
      | inr apart ↦ agree w not ∙ sym (truth_of-with_other others v x w apart)
    ],
    side_set nodes reduced p.first q.first v x side.first others ∙ one,
    side_set nodes reduced p.second q.second v x side.second others ∙ two,
  )

  -- and where it is not, where the side of its truth does
  pub meets_chosen : (forgotten ts : List Bool) → truth_of forgotten v ≡ false → truth_of ts v ≡ x → MeetWithout forgotten (test nodes q.first) (test nodes q.second) ts → MeetWithout forgotten (test nodes p.first) (test nodes p.second) ts
  meets_chosen forgotten ts kept at (others, agree, one, two) =
      let here : truth_of others v ≡ x = sym (agree v kept) ∙ at in
      (others, agree, sym (side.first.function others here) ∙ one, sym (side.second.function others here) ∙ two)

  pub meets_below : (forgotten ts others : List Bool) → AgreeBut forgotten ts others → truth_of others v ≡ x → IsTrue (test nodes p.first others) → IsTrue (test nodes p.second others)
      → MeetWithout forgotten (test nodes q.first) (test nodes q.second) ts
  meets_below forgotten ts others agree here one two = (others, agree, side.first.function others here ∙ one, side.second.function others here ∙ two)

either_of : (a b : Bool) → IsTrue (a || b) → IsTrue a ⊎ IsTrue b
either_of true b t = inl refl
either_of false b t = inr t

or_left : (a b : Bool) → IsTrue a → IsTrue (a || b)
or_left true b t = refl
or_left false b t = absurd (false≢true t)

or_right : (a b : Bool) → IsTrue b → IsTrue (a || b)
or_right true b t = refl
or_right false b t = t

module _ (nodes : List Node) (reduced : IsReduced nodes) (forgotten : List Bool) (p : Pair) (s : ProductSplit) (split : IsProductSplit nodes p s) where
  abbrev Whole : List Bool → Type 0
  Whole ts = MeetWithout forgotten (test nodes p.first) (test nodes p.second) ts

  abbrev Low : List Bool → Type 0
  Low ts = MeetWithout forgotten (test nodes s.low.first) (test nodes s.low.second) ts

  abbrev High : List Bool → Type 0
  High ts = MeetWithout forgotten (test nodes s.high.first) (test nodes s.high.second) ts

  abbrev Joins : Bool → Bool → Bool → Bool → Bool
  Joins gone x low high = if gone then low || high else (if x then high else low)

  -- one of the two sides, or the one of its truth, meets where the pair does
  joined : (ts : List Bool) (gone x l h : Bool) → truth_of forgotten s.variable ≡ gone → truth_of ts s.variable ≡ x → IsTrue l ↔ Low ts → IsTrue h ↔ High ts → IsTrue (Joins gone x l h) ↔ Whole ts
  joined ts true x l h gone at low high = (
    λ t. elim (either_of l h t) [
      | inl a ↦ meets_forgotten nodes reduced p s.low s.variable false split.low forgotten ts gone (low.0 a)
      | inr b ↦ meets_forgotten nodes reduced p s.high s.variable true split.high forgotten ts gone (high.0 b)
    ],
    λ (others, agree, one, two). by others agree one two (truth_of others s.variable) refl,
  )
    where
      by : (others : List Bool) → AgreeBut forgotten ts others → IsTrue (test nodes p.first others) → IsTrue (test nodes p.second others) → (y : Bool) → truth_of others s.variable ≡ y → IsTrue (l || h)
      by others agree one two true e = or_right l h (high.1 (meets_below nodes reduced p s.high s.variable true split.high forgotten ts others agree e one two))
      by others agree one two false e = or_left l h (low.1 (meets_below nodes reduced p s.low s.variable false split.low forgotten ts others agree e one two))
  joined ts false true l h kept at low high = (
    λ t. meets_chosen nodes reduced p s.high s.variable true split.high forgotten ts kept at (high.0 t),
    λ (others, agree, one, two). high.1 (meets_below nodes reduced p s.high s.variable true split.high forgotten ts others agree (sym (agree s.variable kept) ∙ at) one two),
  )
  joined ts false false l h kept at low high = (
    λ t. meets_chosen nodes reduced p s.low s.variable false split.low forgotten ts kept at (low.0 t),
    λ (others, agree, one, two). low.1 (meets_below nodes reduced p s.low s.variable false split.low forgotten ts others agree (sym (agree s.variable kept) ∙ at) one two),
  )

  pub product_joined : (mid new : List Node) (low high r : Ref) → IsProduct mid forgotten (test nodes s.low.first) (test nodes s.low.second) low → IsProduct mid forgotten (test nodes s.high.first) (test nodes s.high.second) high
      → IsJoined mid new (truth_of forgotten s.variable) s.variable low high r → IsProduct new forgotten (test nodes p.first) (test nodes p.second) r
  product_joined mid new low high r is_low is_high is = record {
    holds = is.holds;
    function = λ ts.
        let both = joined ts (truth_of forgotten s.variable) (truth_of ts s.variable) (test mid low ts) (test mid high ts) refl refl (is_low.function ts) (is_high.function ts) in
        (λ t. both.0 (sym (is.function ts) ∙ t), λ w. is.function ts ∙ both.1 w);
  }

-- ---- what stays as nodes are added

module _ (old new : StoreView) (kept : Keeps old new) where
  pub product_kept : (forgotten : List Bool) (f g : List Bool → Bool) (r : Ref) → IsProduct old.nodes forgotten f g r → IsProduct new.nodes forgotten f g r
  product_kept forgotten f g r is = record {
    holds = Holds-kept old new kept r is.holds;
    function = λ ts. let same = Agree-kept old new kept r is.holds ts in (λ t. (is.function ts).0 (sym same ∙ t), λ m. same ∙ (is.function ts).1 m);
  }

  pub pair_held : (p : Pair) → HoldsPair old.nodes p → HoldsPair new.nodes p
  pair_held p held = (Holds-kept old new kept p.first held.0, Holds-kept old new kept p.second held.1)

  -- a product of the newer functions is one of the older ones
  pub product_back : (nodes : List Node) (forgotten : List Bool) (p : Pair) → HoldsPair old.nodes p → (r : Ref) → IsProduct nodes forgotten (test new.nodes p.first) (test new.nodes p.second) r
      → IsProduct nodes forgotten (test old.nodes p.first) (test old.nodes p.second) r
  product_back nodes forgotten p held r is =
      product_same nodes forgotten (test new.nodes p.first) (test new.nodes p.second) (test old.nodes p.first) (test old.nodes p.second)
      (Agree-kept old new kept p.first held.0) (Agree-kept old new kept p.second held.1) r is

  pub product_on : (nodes : List Node) (forgotten : List Bool) (p : Pair) → HoldsPair old.nodes p → (r : Ref) → IsProduct nodes forgotten (test old.nodes p.first) (test old.nodes p.second) r
      → IsProduct nodes forgotten (test new.nodes p.first) (test new.nodes p.second) r
  product_on nodes forgotten p held r is =
      product_same nodes forgotten (test old.nodes p.first) (test old.nodes p.second) (test new.nodes p.first) (test new.nodes p.second)
      (λ ts. sym (Agree-kept old new kept p.first held.0 ts)) (λ ts. sym (Agree-kept old new kept p.second held.1 ts)) r is

  product_entry : (forgotten : List Bool) (p : Pair) (o : Option Ref) → IfSome o (λ r. HoldsPair old.nodes p × IsPairProduct old.nodes forgotten p r) → IfSome o (λ r. HoldsPair new.nodes p × IsPairProduct new.nodes forgotten p r)
  product_entry forgotten p None h = tt
  product_entry forgotten p (Some r) h = (pair_held p h.0, product_on new.nodes forgotten p h.0 r (product_kept forgotten (test old.nodes p.first) (test old.nodes p.second) r h.1))

  pub products_kept : {S : Type 0} (eq : Pair → Pair → Bool) (forgotten : List Bool) (products : HashMap Pair Ref S) → AreProducts eq old.nodes forgotten products → AreProducts eq new.nodes forgotten products
  products_kept eq forgotten products are p = product_entry forgotten p (get eq products p) (are p)

-- ---- nodes

-- the variables of a product are later ones, since those of its pair are
pub product_later : (old : List Node) → IsReduced old → (new : StoreView) → IsStore new → (forgotten : List Bool) (p q : Pair) (v : ℕ) (x : Bool) → IsPairSide old p v x q
    → (r : Ref) → IsProduct new.nodes forgotten (test old q.first) (test old q.second) r → StartsFrom (suc v) (diagram new.nodes r)
unfolding StartsFrom Tests
product_later old reduced new store forgotten p q v x side r is = by (diagram new.nodes r) refl
  where
    by : (d : Diagram) → diagram new.nodes r ≡ d → StartsFrom (suc v) (diagram new.nodes r)
    by (Constant b) e = subst (StartsFrom (suc v)) (sym e) tt
    by (Choice u low high) e =
        let tested : Tests (diagram new.nodes r) u = subst (λ d. Tests d u) (sym e) (inl refl) in
        let depends = Depends-tests (diagram new.nodes r) u (proper new.nodes store.reduced r is.holds) tested in
        subst (StartsFrom (suc v)) (sym e) (side_later old reduced p q v x side u (product_tests old new.nodes forgotten q r is u depends))

-- what a side's product depends on
pub product_spans : (old new : List Node) → IsReduced old → (forgotten : List Bool) (p q : Pair) (v : ℕ) (x : Bool) → IsPairSide old p v x q → (vs : List ℕ) → PairTestsOnly old p vs
    → (r : Ref) → IsProduct new forgotten (test old q.first) (test old q.second) r → Spans new r (without v vs)
product_spans old new reduced forgotten p q v x side vs only r is u depends =
    side_only old reduced p q v x side vs only u (product_tests old new forgotten q r is u depends)

room_step : (j : ℕ) → product_room (suc j) ≡ 2 * product_room j + 2 ^ j
unfolding product_room
room_step j = refl

room_rises : (j k : ℕ) → j ≤ k → product_room j ≤ product_room k
unfolding product_room
room_rises zero k le = omega arith
room_rises (suc j) zero le = absurd (omega arith)
room_rises (suc j) (suc k) le =
    let rest = room_rises j k (omega arith) in
    let more : 2 ^ j ≤ 2 ^ k = pow_mono (omega arith) in
    omega (arith, rest, more)

-- the room of two products over one variable less, and of what joins them
pub rooms_fit : (v : ℕ) (vs : List ℕ) → Contains vs v → 2 * product_room (length (without v vs)) + 2 ^ length (without v vs) ≤ product_room (length vs)
rooms_fit v vs among =
    let fewer = length-without_contained v vs among in
    let wide = room_rises (suc (length (without v vs))) (length vs) fewer in
    let step = room_step (length (without v vs)) in
    omega (arith, wide, step)

one_room : (k : ℕ) → 1 ≤ 2 ^ k
one_room zero = omega arith
one_room (suc k) = let rest = one_room k in let twice = pow-suc 2 k in omega (arith, rest, twice)

pub positive : (k n : ℕ) → n < n + 2 ^ k
positive k n = let one = one_room k in omega (arith, one)

room_small : (k : ℕ) → product_room k + k ≤ k * 2 ^ k
unfolding product_room
room_small zero = omega arith
room_small (suc k) =
    let rest = room_small k in
    let one = one_room k in
    let spread : suc k * 2 ^ suc k ≡ k * 2 ^ k * 2 + 2 ^ k * 2 = ap (λ m. suc k * m) (pow-suc 2 k) ∙ suc-mul k (2 ^ k * 2) ∙ ap (λ m. m + 2 ^ k * 2) (sym (mul_assoc k (2 ^ k) 2)) in
    omega (arith, rest, one, spread)

-- what a call adds is within its share
pub room_allowed : (vs : List ℕ) → product_room (length vs) ≤ (length vs + 1) * allowance vs
room_allowed vs =
    let small = room_small (length vs) in
    let one = one_room (length vs) in
    let m : ℕ = 2 ^ length vs - 1 in
    let whole : 2 ^ length vs ≡ suc m = omega (arith, one) in
    let spread : length vs * 2 ^ length vs ≡ length vs * m + length vs = ap (λ n. length vs * n) whole ∙ mul-suc (length vs) m in
    let more : (length vs + 1) * m ≡ length vs * m + m = add-mul (length vs) 1 m ∙ ap (λ n. length vs * m + n) (one-mul m) in
    omega (arith, small, spread, more)

pub product_share : {T : Type 0} (vs : List ℕ) (old new : StoreView) (result : Result T DdAnswer) → length new.nodes ≤ length old.nodes + product_room (length vs)
    → ((n : ℕ) → result ≡ Err (Budget n) → IsFull new n × (n < length old.nodes + product_room (length vs))) → Share (length vs + 1) vs old new (refusal result)
product_share vs old new (Ok x) added budget = let room = room_allowed vs in record { added = omega (arith, added, room); refused = tt }
product_share vs old new (Err (Budget n)) added budget =
    let room = room_allowed vs in
    let lt = (budget n refl).1 in
    record { added = omega (arith, added, room); refused = ((budget n refl).0, omega (arith, lt, room)) }
product_share vs old new (Err OutOfMemory) added budget = let room = room_allowed vs in record { added = omega (arith, added, room); refused = tt }

-- what a call of two operands may add and is refused for, from its share
pub joins_within : {T : Type 0} (vs : List ℕ) (old new : StoreView) (result : Result T DdAnswer) → Share 1 vs old new (refusal result) → length new.nodes ≤ length old.nodes + 2 ^ length vs
joins_within vs old new result share = let a = share.added in omega (arith, a)

pub joins_refused : {T : Type 0} (vs : List ℕ) (old new : StoreView) (result : Result T DdAnswer) → Share 1 vs old new (refusal result) → (n : ℕ) → result ≡ Err (Budget n) → IsFull new n × (n < length old.nodes + 2 ^ length vs)
joins_refused vs old new result share n is =
    let why : IsFull new n × (n < length old.nodes + 1 * allowance vs) = subst (λ (r : Result _ DdAnswer). IfSome (refusal r) (IsRefused old new (1 * allowance vs))) is share.refused in
    let lt = why.1 in
    (why.0, omega (arith, lt))

-- ---- steps

no_product : (nodes : List Node) (forgotten : List Bool) (p : Pair) → (p.first.number ≡ 0) ⊎ (p.second.number ≡ 0) → (r : Ref) → r.number ≡ 0 → IsPairProduct nodes forgotten p r
no_product nodes forgotten p none r is = record {
  holds = omega (arith, is);
  function = λ ts. (
    λ t. absurd (false≢true (sym (test-false nodes r is ts) ∙ t)),
    λ (others, agree, one, two). elim none [
      | inl e ↦ absurd (false≢true (sym (test-false nodes p.first e others) ∙ one))
      | inr e ↦ absurd (false≢true (sym (test-false nodes p.second e others) ∙ two))
    ],
  );
}

pub known_false : (nodes : List Node) (p : Pair) → (p.first.number ≡ 0) ⊎ (p.second.number ≡ 0) → (r : Ref) → r.number ≡ 0 → (forgotten : List Bool) → IsPairProduct nodes forgotten p r
known_false nodes p none r is forgotten = no_product nodes forgotten p none r is

pub known_true : (nodes : List Node) (p : Pair) → p.first.number ≡ 1 → p.second.number ≡ 1 → (r : Ref) → r.number ≡ 1 → (forgotten : List Bool) → IsPairProduct nodes forgotten p r
known_true nodes p first second r is forgotten = record {
  holds = omega (arith, is);
  function = λ ts. (
    λ t. (ts, λ w not. refl, test-true nodes p.first first ts, test-true nodes p.second second ts),
    λ m. test-true nodes r is ts,
  );
}

module _ (nodes : List Node) (reduced : IsReduced nodes) (p : Pair) (held : HoldsPair nodes p) where
  pair_side_is : (q : Pair) (v : ℕ) (x : Bool) → HasVariable nodes p.first v ⊎ HasVariable nodes p.second v → IsSide nodes p.first v x q.first → IsSide nodes p.second v x q.second → IsPairSide nodes p v x q
  pair_side_is q v x has first second = record { first = first; second = second; smaller = smaller_side nodes reduced p q v x first second has }

  pub product_split : (s : ProductSplit) (v : ℕ) → s.variable ≡ v → HasVariable nodes p.first v ⊎ HasVariable nodes p.second v
      → IsSide nodes p.first v false s.low.first → IsSide nodes p.second v false s.low.second → IsSide nodes p.first v true s.high.first → IsSide nodes p.second v true s.high.second → IsProductSplit nodes p s
  product_split s v is has fl sl fh sh = record {
    tested = subst (PairTests nodes p) (sym is) (elim has [ inl one ↦ inl (tests_own nodes reduced p.first held.0 v one) | inr two ↦ inr (tests_own nodes reduced p.second held.1 v two) ]);
    low = subst (λ u. IsPairSide nodes p u false s.low) (sym is) (pair_side_is s.low v false has fl sl);
    high = subst (λ u. IsPairSide nodes p u true s.high) (sym is) (pair_side_is s.high v true has fh sh);
  }

  -- a reference that names no node and is not false is true
  pub number_true : (r : Ref) → Holds nodes r → None ≡ node_of nodes r → r.number ≢ 0 → r.number ≡ 1
  number_true r there none apart = let below = constant_below nodes reduced r there none in omega (arith, below, apart)

  pub only_spanned : (vs : List ℕ) → Spans nodes p.first vs → Spans nodes p.second vs → PairTestsOnly nodes p vs
  only_spanned vs one two v (inl t) = one v (Depends-tests (diagram nodes p.first) v (proper nodes reduced p.first held.0) t)
  only_spanned vs one two v (inr t) = two v (Depends-tests (diagram nodes p.second) v (proper nodes reduced p.second held.1) t)

-- what a product depends on, its parts do
pub product_spanned : (s : StoreView) → IsStore s → (f g : Ref) → Holds s.nodes f → Holds s.nodes g → (nodes : List Node) (forgotten : List Bool) (r : Ref) → IsProduct nodes forgotten (test s.nodes f) (test s.nodes g) r
    → (vs : List ℕ) → Spans s.nodes f vs → Spans s.nodes g vs → Spans nodes r vs
product_spanned s store f g held_f held_g nodes forgotten r is vs one two u depends =
    let p : Pair = record { first = f; second = g } in
    only_spanned s.nodes store.reduced p (held_f, held_g) vs one two u (product_tests s.nodes nodes forgotten p r is u depends)

-- ---- two products and what joins them

pub tests_older : (old new : StoreView) → Keeps old new → (p : Pair) → HoldsPair old.nodes p → (u : ℕ) → PairTests new.nodes p u → PairTests old.nodes p u
tests_older old new kept p held u t = by (subst (λ ns. PairTests ns p u) kept.nodes t)
  where
    by : PairTests (old.nodes ++ kept.added) p u → PairTests old.nodes p u
    by (inl one) = inl (tests_back old.nodes kept.added u p.first held.0 one)
    by (inr two) = inr (tests_back old.nodes kept.added u p.second held.1 two)

module _ (old mid hi : StoreView) (store : IsStore old) (hi_store : IsStore hi) (kept : Keeps old mid) (more : Keeps mid hi) (forgotten : List Bool) (p : Pair) (s : ProductSplit) (split : IsProductSplit old.nodes p s) where
  low_there : (r : Ref) → IsProduct mid.nodes forgotten (test old.nodes s.low.first) (test old.nodes s.low.second) r → IsProduct hi.nodes forgotten (test old.nodes s.low.first) (test old.nodes s.low.second) r
  low_there r is = product_kept mid hi more forgotten (test old.nodes s.low.first) (test old.nodes s.low.second) r is

  high_there : (r : Ref) → IsProduct hi.nodes forgotten (test mid.nodes s.high.first) (test mid.nodes s.high.second) r → IsProduct hi.nodes forgotten (test old.nodes s.high.first) (test old.nodes s.high.second) r
  high_there r is = product_back old mid kept hi.nodes forgotten s.high (side_held old.nodes store.reduced p s.high s.variable true split.high) r is

  module _ (low : Ref) (is_low : IsProduct mid.nodes forgotten (test old.nodes s.low.first) (test old.nodes s.low.second) low) where
    pub low_later : StartsFrom (suc s.variable) (diagram hi.nodes low)
    low_later = product_later old.nodes store.reduced hi hi_store forgotten p s.low s.variable false split.low low (low_there low is_low)

    pub low_spans : (vs : List ℕ) → PairTestsOnly old.nodes p vs → Spans hi.nodes low (without s.variable vs)
    low_spans vs only = product_spans old.nodes hi.nodes store.reduced forgotten p s.low s.variable false split.low vs only low (low_there low is_low)

  module _ (high : Ref) (is_high : IsProduct hi.nodes forgotten (test mid.nodes s.high.first) (test mid.nodes s.high.second) high) where
    pub high_later : StartsFrom (suc s.variable) (diagram hi.nodes high)
    high_later = product_later old.nodes store.reduced hi hi_store forgotten p s.high s.variable true split.high high (high_there high is_high)

    pub high_spans : (vs : List ℕ) → PairTestsOnly old.nodes p vs → Spans hi.nodes high (without s.variable vs)
    high_spans vs only = product_spans old.nodes hi.nodes store.reduced forgotten p s.high s.variable true split.high vs only high (high_there high is_high)

  -- the product of the pair, from those of its two sides
  pub pair_product : (low high r : Ref) (new : StoreView) → IsProduct mid.nodes forgotten (test old.nodes s.low.first) (test old.nodes s.low.second) low
      → IsProduct hi.nodes forgotten (test mid.nodes s.high.first) (test mid.nodes s.high.second) high
      → IsJoined hi.nodes new.nodes (truth_of forgotten s.variable) s.variable low high r → IsProduct new.nodes forgotten (test old.nodes p.first) (test old.nodes p.second) r
  pair_product low high r new is_low is_high is =
      product_joined old.nodes store.reduced forgotten p s split hi.nodes new.nodes low high r (low_there low is_low) (high_there high is_high) is

module _ (old : StoreView) (store : IsStore old) (p : Pair) (s : ProductSplit) (split : IsProductSplit old.nodes p s) (vs : List ℕ) (only : PairTestsOnly old.nodes p vs) where
  abbrev pub rest : List ℕ
  rest = without s.variable vs

  pub low_only : PairTestsOnly old.nodes s.low rest
  low_only = side_only old.nodes store.reduced p s.low s.variable false split.low vs only

  pub high_only : (mid : StoreView) → Keeps old mid → PairTestsOnly mid.nodes s.high rest
  high_only mid kept u t =
      side_only old.nodes store.reduced p s.high s.variable true split.high vs only u
      (tests_older old mid kept s.high (side_held old.nodes store.reduced p s.high s.variable true split.high) u t)

  pub rooms : 2 * product_room (length rest) + 2 ^ length rest ≤ product_room (length vs)
  rooms = rooms_fit s.variable vs (only s.variable split.tested)

  -- a number within two rooms and what joins them is within that of the pair
  pub within_room : (a b n : ℕ) → a ≤ length old.nodes + product_room (length rest) → b ≤ a + product_room (length rest) → n ≤ b + 2 ^ length rest → n ≤ length old.nodes + product_room (length vs)
  within_room a b n first second third = let fit = rooms in omega (arith, first, second, third, fit)

  pub below_room : (a b n : ℕ) → a ≤ length old.nodes + product_room (length rest) → b ≤ a + product_room (length rest) → n < b + 2 ^ length rest → n < length old.nodes + product_room (length vs)
  below_room a b n first second third = let fit = rooms in omega (arith, first, second, third, fit)
