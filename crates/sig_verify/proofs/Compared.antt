-- A step of a pair, and how many pairs there are.
use Rattle.sig_verify.proofs.Common.{◌≡◌, ℕ, suc, ◌+◌, ◌-◌, ◌*◌, ◌<◌, ◌≤◌, ◌^◌, Bool, true, false, not, cond, List, Option, None, Some, Result, ◌⊎◌, inl, inr, refl, sym, ap, subst, ◌∙◌, arith, mul-le-mul, get_or-range_with_len, pow_pos, eqb-true, ◌↔◌, ◌&&◌, Contains, IfErr, IsTrue, nat_eq, StartsFrom, Tests, Holds, IsReduced, IsRefOf, diagram, node_of, HasVariable, IsSide, one_ref, same_ref, IsEarlier, earlier_is, side_is, constant_ref, constant_test, known_constant, known_itself, pair_split, HasVariable-node, own_first, starts_own, tests_own, Depends-Tests, IsOf, variables, HoldsBoth, IsSplitInto, IsTired, IsWithin, Meets, Budget, DdAnswer, Node, OutOfMemory, Ref, earlier_of, side_of, Diagrams, Pair, Work, and_parts}
use Rattle.sig_verify.proofs.Calls.{length-variables}
use Rattle.sig_verify.proofs.GuardNodes.{doubled, starts_anywhere}

pub pair_same : (p q : Pair) → (nat_eq p.first.number q.first.number && nat_eq p.second.number q.second.number) ≡ true → p ≡ q
pair_same p q e =
    let parts = and_parts (nat_eq p.first.number q.first.number) (nat_eq p.second.number q.second.number) e in
    let one = same_ref p.first q.first (eqb-true p.first.number q.first.number parts.0) in
    let other = same_ref p.second q.second (eqb-true p.second.number q.second.number parts.1) in
    λ j. record { first = one j; second = other j }

module _ (nodes : List Node) (reduced : IsReduced nodes) where
  constant_held : (b : Bool) → Holds nodes (constant_ref b)
  constant_held true = omega arith
  constant_held false = omega arith

  -- a reference to a constant is the constant
  pub constant_is : (b : Bool) (r : Ref) → IsRefOf nodes (λ _. b) r → r ≡ constant_ref b
  constant_is b r is = one_ref nodes reduced r (constant_ref b) is.holds (constant_held b) (λ ts. is.function ts ∙ sym (constant_test nodes b ts))

  side_within : (r c : Ref) (v to : ℕ) (x : Bool) → IsSide nodes r v x c → ((u : ℕ) → Tests (diagram nodes r) u → u < to) → (u : ℕ) → Tests (diagram nodes c) u → u < to
  side_within r c v to x side below u t = below u (side.tests u t)

  -- the two sides of a pair by its first variable
  pub is_split : (p low high : Pair) (b : Bool) (v : ℕ) → HoldsBoth nodes p → HasVariable nodes p.first v ⊎ HasVariable nodes p.second v
      → IsSide nodes p.first v false low.first → IsSide nodes p.second v false low.second
      → IsSide nodes p.first v true high.first → IsSide nodes p.second v true high.second → IsSplitInto nodes p b low high
  is_split p low high b v held has fl sl fh sh =
      let split = pair_split nodes reduced (record { first = p.first; second = p.second }) (record { first = low.first; second = low.second }) (record { first = high.first; second = high.second }) b v has fl sl fh sh in
      record {
        low_held = split.low_held;
        high_held = split.high_held;
        low_meets = split.low_meets;
        high_meets = split.high_meets;
        either = split.either;
        low_smaller = split.low_smaller;
        high_smaller = split.high_smaller;
        variable = v;
        at = λ from to w. elim has [
          | inl h ↦ (own_first nodes reduced p.first held.0 v h from w.first_from, w.first_to v (tests_own nodes reduced p.first held.0 v h))
          | inr h ↦ (own_first nodes reduced p.second held.1 v h from w.second_from, w.second_to v (tests_own nodes reduced p.second held.1 v h))
        ];
        low_within = λ from to w. record {
          first_from = fl.later;
          second_from = sl.later;
          first_to = side_within p.first low.first v to false fl w.first_to;
          second_to = side_within p.second low.second v to false sl w.second_to;
        };
        high_within = λ from to w. record {
          first_from = fh.later;
          second_from = sh.later;
          first_to = side_within p.first high.first v to true fh w.first_to;
          second_to = side_within p.second high.second v to true sh w.second_to;
        };
      }

  -- ---- one step

  module _ (p : Pair) (held : HoldsBoth nodes p) (b : Bool) where
    module _ (never other : Ref) (is_never : IsRefOf nodes (λ _. false) never) (is_other : IsRefOf nodes (λ _. not b) other) where
      never_number : never.number ≡ 0
      never_number = ap (λ (r : Ref). r.number) (constant_is false never is_never)

      other_number : other.number ≡ cond (not b) 1 0
      other_number = ap (λ (r : Ref). r.number) (constant_is (not b) other is_other)

      pub itself_by : p.first ≡ p.second → (p.first.number ≡ never.number → ⊥) → IsTrue b ↔ Meets nodes p b
      itself_by same ne = known_itself nodes reduced (record { first = p.first; second = p.second }) held b same (λ e. ne (e ∙ sym never_number))

      pub constant_by : (None ≡ node_of nodes p.first) ⊎ (None ≡ node_of nodes p.second) → (p.first.number ≡ never.number → ⊥) → (p.second.number ≡ other.number → ⊥)
          → IsTrue true ↔ Meets nodes p b
      constant_by none ne ne' = known_constant nodes reduced (record { first = p.first; second = p.second }) held b none (λ e. ne (e ∙ sym never_number)) (λ e. ne' (e ∙ sym other_number))

    module _ (n : Node) (is : Some n ≡ node_of nodes p.first) (second : Option Node) (is_second : second ≡ node_of nodes p.second) (v : ℕ) (at : v ≡ earlier_of second n.variable) where
      has : HasVariable nodes p.first n.variable
      has = HasVariable-node nodes reduced p.first held.0 n is

      early : IsEarlier nodes reduced p.second held.1 n.variable v
      early = earlier_is nodes reduced p.second held.1 (record { reference = p.second; node = second }) (record { reference = refl; node = is_second }) n.variable v at

      from_first : StartsFrom v (diagram nodes p.first)
      from_first = starts_own nodes reduced p.first held.0 n.variable has v early.at_most

      first_side : (x : Bool) (c : Ref) → c ≡ side_of (Some n) p.first v x → IsSide nodes p.first v x c
      first_side x c e = side_is nodes reduced p.first held.0 (record { reference = p.first; node = Some n }) (record { reference = refl; node = is }) v x from_first c e

      second_side : (x : Bool) (c : Ref) → c ≡ side_of second p.second v x → IsSide nodes p.second v x c
      second_side x c e = side_is nodes reduced p.second held.1 (record { reference = p.second; node = second }) (record { reference = refl; node = is_second }) v x early.starts c e

      pub split_by : (low high : Pair) → low.first ≡ side_of (Some n) p.first v false → low.second ≡ side_of second p.second v false
          → high.first ≡ side_of (Some n) p.first v true → high.second ≡ side_of second p.second v true → IsSplitInto nodes p b low high
      split_by low high lf ls hf hs =
          is_split p low high b v held (elim early.one_of [ inl e ↦ inl (subst (HasVariable nodes p.first) (sym e) has) | inr h ↦ inr h ])
          (first_side false low.first lf) (second_side false low.second ls) (first_side true high.first hf) (second_side true high.second hs)

-- ---- how many pairs there are

pub later_tired : (old new : Work) (m n : ℕ) → new.pairs + m ≤ old.pairs + n → (answer : DdAnswer) → IsTired new m answer → IsTired old n answer
later_tired old new m n le (Budget nodes) h = let lt = h.1 in (h.0, omega (arith, lt, le))
later_tired old new m n le OutOfMemory h = tt

module _ (v from to : ℕ) (le : from ≤ v) (lt : v < to) (old counted : Work) (one : counted.pairs ≡ old.pairs + 1) where
  halves : 2 ^ (to - suc v) + 2 ^ (to - suc v) ≤ 2 ^ (to - from)
  halves = doubled to from v le lt

  pub low_tired : (answer : DdAnswer) → IsTired counted (2 ^ (to - suc v)) answer → IsTired old (2 ^ (to - from)) answer
  low_tired = let half = halves in let some = pow_pos (to - suc v) in later_tired old counted (2 ^ (to - suc v)) (2 ^ (to - from)) (omega (arith, half, some, one))

  module _ (low : Work) (few : low.pairs < counted.pairs + 2 ^ (to - suc v)) where
    pub low_few : low.pairs < old.pairs + 2 ^ (to - from)
    low_few = let half = halves in let some = pow_pos (to - suc v) in omega (arith, half, some, one, few)

    pub high_tired : (answer : DdAnswer) → IsTired low (2 ^ (to - suc v)) answer → IsTired old (2 ^ (to - from)) answer
    high_tired = let half = halves in later_tired old low (2 ^ (to - suc v)) (2 ^ (to - from)) (omega (arith, half, one, few))

    pub high_few : (high : Work) → high.pairs < low.pairs + 2 ^ (to - suc v) → high.pairs < old.pairs + 2 ^ (to - from)
    high_few high less = let half = halves in omega (arith, half, one, few, less)

contained : (k u : ℕ) → Contains (variables k) u → u < k
contained k u (i, lt, at) = let long = length-variables k in let is = get_or-range_with_len 0 k i u (omega (arith, long, lt)) in omega (arith, long, lt, is, at)

-- functions of the conditions alone
pub of_conditions : (d : Diagrams) → IsReduced d.store.nodes → (p : Pair) → IsOf d p.first → IsOf d p.second → IsWithin d.store.nodes 0 d.conditions p
of_conditions d reduced p first second = record {
  first_from = starts_anywhere (diagram d.store.nodes p.first);
  second_from = starts_anywhere (diagram d.store.nodes p.second);
  first_to = λ u t. contained d.conditions u (first.spans u (Depends-Tests d.store.nodes reduced p.first first.holds u t));
  second_to = λ u t. contained d.conditions u (second.spans u (Depends-Tests d.store.nodes reduced p.second second.holds u t));
}

whole : (k : ℕ) → 2 ^ (k - 0) ≡ 2 ^ k
whole k = ap (λ n. 2 ^ n) (omega arith)

module _ (d : Diagrams) (reduced : IsReduced d.store.nodes) (p : Pair) (first : IsOf d p.first) (second : IsOf d p.second) (old : Work) where
  pub all_few : (new : Work) → ((from to : ℕ) → IsWithin d.store.nodes from to p → new.pairs < old.pairs + 2 ^ (to - from)) → new.pairs ≤ old.pairs + 2 ^ d.conditions
  all_few new few = let lt = few 0 d.conditions (of_conditions d reduced p first second) in let all = whole d.conditions in omega (arith, lt, all)

  pub all_tired : (result : Result Bool DdAnswer) → ((from to : ℕ) → IsWithin d.store.nodes from to p → IfErr result (IsTired old (2 ^ (to - from)))) → IfErr result (IsTired old (2 ^ d.conditions))
  all_tired result h = subst (λ n. IfErr result (IsTired old n)) (whole d.conditions) (h 0 d.conditions (of_conditions d reduced p first second))

-- ---- several comparisons

module _ (i n p : ℕ) where
  room : i < n → i * p + p ≤ n * p
  room lt = let more : (i + 1) * p ≤ n * p = mul-le-mul (omega arith) (omega arith) in let flat : (i + 1) * p ≡ i * p + p = omega arith in omega (arith, more, flat)

  pub one_more_few : i < n → (start before behind : ℕ) → before ≤ start + i * p → behind ≤ before + p → behind ≤ start + n * p
  one_more_few lt start before behind few more = let fits = room lt in omega (arith, fits, few, more)

  pub all_of_few : i ≤ n → (start before : ℕ) → before ≤ start + i * p → before ≤ start + n * p
  all_of_few le start before few = let more : i * p ≤ n * p = mul-le-mul le (omega arith) in omega (arith, more, few)

  pub one_more_tired : i < n → (old new : Work) → new.pairs ≤ old.pairs + i * p → (answer : DdAnswer) → IsTired new p answer → IsTired old (n * p) answer
  one_more_tired lt old new few = let fits = room lt in later_tired old new p (n * p) (omega (arith, fits, few))
