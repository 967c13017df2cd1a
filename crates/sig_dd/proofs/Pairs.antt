-- A step of a pair tells whether it meets, or splits it.
use Rattle.sig_dd.proofs.Common.{◌≡◌, ◌≢◌, ◌↔◌, ℕ, suc, ◌+◌, ◌<◌, Bool, true, false, not, cond, List, ◌⊎◌, inl, inr, None, refl, sym, ◌∙◌, ap, arith, true≢false, IsTrue, eqb, ◌&&◌, false≢true, eqb-true, Constant, value_at, truth_of, with_truth, Holds, node_of, diagram, test, IsReduced, HasVariable, IsSide, HoldsPair, Meets, IsPairSplit, Ref, Node, Pair, and_first, and_second}
use Rattle.sig_dd.proofs.Trees.{equal_or_differ, value_at-earlier, truth_of-with_same}
use Rattle.sig_dd.proofs.Listed.{diagram-true, diagram-false}
use Rattle.sig_dd.proofs.Canonical.{proper, one_reference, same_ref}
use Rattle.sig_dd.proofs.Sides.{constant_below}

pub pair_eq-same : (p q : Pair) → (eqb p.first.number q.first.number && eqb p.second.number q.second.number) ≡ true → p ≡ q
pair_eq-same p q e =
    let a = same_ref p.first q.first (eqb-true _ _ (and_first _ _ e)) in
    let b = same_ref p.second q.second (eqb-true _ _ (and_second _ _ e)) in
    λ j. record { first = a j; second = b j }

other_truth : (x b : Bool) → x ≢ b → x ≡ not b
other_truth true true ne = absurd (ne refl)
other_truth true false ne = refl
other_truth false true ne = refl
other_truth false false ne = absurd (ne refl)

-- the constant of the truth x
abbrev pub constant_ref : Bool → Ref
constant_ref x = record { number = cond x 1 0 }

module _ (nodes : List Node) where
  constant_held : (x : Bool) → Holds nodes (constant_ref x)
  constant_held true = omega arith
  constant_held false = omega arith

  constant_diagram : (x : Bool) → diagram nodes (constant_ref x) ≡ Constant x
  constant_diagram true = diagram-true nodes (constant_ref true) refl
  constant_diagram false = diagram-false nodes (constant_ref false) refl

  pub constant_test : (x : Bool) (ts : List Bool) → test nodes (constant_ref x) ts ≡ x
  unfolding value_at
  constant_test x ts = ap (λ d. value_at d ts) (constant_diagram x)

module _ (nodes : List Node) (reduced : IsReduced nodes) where
  -- a function that is not constant has the other truth somewhere
  pub not_constant : (r : Ref) → Holds nodes r → (x : Bool) → r ≢ constant_ref x → (ts : List Bool) × (test nodes r ts ≡ not x)
  unfolding value_at
  not_constant r held x ne =
      elim (equal_or_differ (diagram nodes r) (Constant x) (proper nodes reduced r held) tt) [
        | inl e ↦ absurd (ne (one_reference nodes reduced r (constant_ref x) held (constant_held nodes x) (e ∙ sym (constant_diagram nodes x))))
        | inr (ts, d) ↦ (ts, other_truth _ x d)
      ]

  -- a reference that names no node is the constant of a truth
  is_constant : (r : Ref) → Holds nodes r → None ≡ node_of nodes r → (x : Bool) → r ≢ constant_ref (not x) → r ≡ constant_ref x
  is_constant r held none true ne =
      let below = constant_below nodes reduced r held none in
      let apart : r.number ≢ 0 = λ e. ne (same_ref r (constant_ref false) e) in
      same_ref r (constant_ref true) (omega arith)
  is_constant r held none false ne =
      let below = constant_below nodes reduced r held none in
      let apart : r.number ≢ 1 = λ e. ne (same_ref r (constant_ref true) e) in
      same_ref r (constant_ref false) (omega arith)

  module _ (p : Pair) (held : HoldsPair nodes p) (b : Bool) where
    -- a pair of one function
    pub meets_itself : p.first ≡ p.second → b ≡ true → p.first ≢ constant_ref false → Meets nodes p b
    meets_itself same is ne =
        let (ts, at) = not_constant p.first held.0 false ne in
        (ts, at, ap (λ r. test nodes r ts) (sym same) ∙ at ∙ sym is)

    pub meets_itself_true : p.first ≡ p.second → Meets nodes p b → b ≡ true
    meets_itself_true same (ts, first, second) = sym second ∙ ap (λ r. test nodes r ts) (sym same) ∙ first

    -- what is never true meets nothing
    pub meets_first : Meets nodes p b → p.first ≢ constant_ref false
    meets_first (ts, first, second) e = true≢false (sym first ∙ ap (λ r. test nodes r ts) e ∙ constant_test nodes false ts)

    not_itself : (x : Bool) → x ≡ not x → ⊥
    not_itself true e = true≢false e
    not_itself false e = false≢true e

    pub meets_second : Meets nodes p b → p.second ≢ constant_ref (not b)
    meets_second (ts, first, second) e = not_itself b (sym second ∙ ap (λ r. test nodes r ts) e ∙ constant_test nodes (not b) ts)

    not_not : (x : Bool) → not (not x) ≡ x
    not_not true = refl
    not_not false = refl

    -- where one of the two is constant
    pub meets_constant : (None ≡ node_of nodes p.first) ⊎ (None ≡ node_of nodes p.second) → p.first ≢ constant_ref false → p.second ≢ constant_ref (not b) → Meets nodes p b
    meets_constant (inl none) ne ne' =
        let is = is_constant p.first held.0 none true ne in
        let (ts, at) = not_constant p.second held.1 (not b) ne' in
        (ts, ap (λ r. test nodes r ts) is ∙ constant_test nodes true ts, at ∙ not_not b)
    meets_constant (inr none) ne ne' =
        let is = is_constant p.second held.1 none b ne' in
        let (ts, at) = not_constant p.first held.0 false ne in
        (ts, at, ap (λ r. test nodes r ts) is ∙ constant_test nodes b ts)

    -- what a step tells at once
    pub known_apart : (p.first.number ≡ 0) ⊎ (p.second.number ≡ cond (not b) 1 0) → IsTrue false ↔ Meets nodes p b
    known_apart (inl e) = (λ f. absurd (false≢true f), λ m. absurd (meets_first m (same_ref p.first (constant_ref false) e)))
    known_apart (inr e) = (λ f. absurd (false≢true f), λ m. absurd (meets_second m (same_ref p.second (constant_ref (not b)) e)))

    pub known_itself : p.first ≡ p.second → p.first.number ≢ 0 → IsTrue b ↔ Meets nodes p b
    known_itself same ne = (λ t. meets_itself same t (λ e. ne (ap (λ (r : Ref). r.number) e)), λ m. meets_itself_true same m)

    pub known_constant : (None ≡ node_of nodes p.first) ⊎ (None ≡ node_of nodes p.second) → p.first.number ≢ 0 → p.second.number ≢ cond (not b) 1 0 → IsTrue true ↔ Meets nodes p b
    known_constant none ne ne' =
        (λ t. meets_constant none (λ e. ne (ap (λ (r : Ref). r.number) e)) (λ e. ne' (ap (λ (r : Ref). r.number) e)), λ m. refl)

  -- a side's truth at some truths is the function's, with the variable set
  pub side_set : (r c : Ref) (v : ℕ) (x : Bool) → IsSide nodes r v x c → (ts : List Bool) → test nodes r (with_truth ts v x) ≡ test nodes c ts
  side_set r c v x side ts =
      let lt : v < suc v = omega arith in
      sym (side.function (with_truth ts v x) (truth_of-with_same ts v x))
      ∙ value_at-earlier (diagram nodes c) (suc v) (proper nodes reduced c side.holds) side.later v lt ts x

  side_meets : (p k : Pair) (v : ℕ) (x b : Bool) → IsSide nodes p.first v x k.first → IsSide nodes p.second v x k.second → Meets nodes k b → Meets nodes p b
  side_meets p k v x b sf sg (ts, first, second) =
      (with_truth ts v x, side_set p.first k.first v x sf ts ∙ first, side_set p.second k.second v x sg ts ∙ second)

  meets_side : (p k : Pair) (v : ℕ) (x b : Bool) → IsSide nodes p.first v x k.first → IsSide nodes p.second v x k.second → (ts : List Bool) → truth_of ts v ≡ x
      → test nodes p.first ts ≡ true → test nodes p.second ts ≡ b → Meets nodes k b
  meets_side p k v x b sf sg ts at first second = (ts, sf.function ts at ∙ first, sg.function ts at ∙ second)

  pub smaller_side : (p k : Pair) (v : ℕ) (x : Bool) → IsSide nodes p.first v x k.first → IsSide nodes p.second v x k.second → HasVariable nodes p.first v ⊎ HasVariable nodes p.second v
      → k.first.number + k.second.number < p.first.number + p.second.number
  smaller_side p k v x sf sg (inl has) = let l = sf.smaller has in let m = sg.at_most in omega arith
  smaller_side p k v x sf sg (inr has) = let l = sf.at_most in let m = sg.smaller has in omega arith

  -- the two sides of a pair by its first variable split it
  pub pair_split : (p low high : Pair) (b : Bool) (v : ℕ) → HasVariable nodes p.first v ⊎ HasVariable nodes p.second v
      → IsSide nodes p.first v false low.first → IsSide nodes p.second v false low.second
      → IsSide nodes p.first v true high.first → IsSide nodes p.second v true high.second → IsPairSplit nodes p b low high
  pair_split p low high b v has fl sl fh sh = record {
    low_held = (fl.holds, sl.holds);
    high_held = (fh.holds, sh.holds);
    low_meets = side_meets p low v false b fl sl;
    high_meets = side_meets p high v true b fh sh;
    either = λ (ts, first, second). by ts first second (truth_of ts v) refl;
    low_smaller = smaller_side p low v false fl sl has;
    high_smaller = smaller_side p high v true fh sh has;
  }
    where
      by : (ts : List Bool) → test nodes p.first ts ≡ true → test nodes p.second ts ≡ b → (x : Bool) → truth_of ts v ≡ x → Meets nodes low b ⊎ Meets nodes high b
      by ts first second true at = inr (meets_side p high v true b fh sh ts at first second)
      by ts first second false at = inl (meets_side p low v false b fl sl ts at first second)
