-- A choice whose second or third function is its first, asked with a constant in its place.
use Rattle.sig_dd.proofs.Common.{◌≡◌, ℕ, ◌≤◌, Bool, true, false, cond, List, ◌⊎◌, inl, inr, refl, sym, ◌∙◌, ap, subst, arith, if◌then◌else◌, value_at, Constant, StartsFrom, Tests, Holds, diagram, test, HoldsAll, asked, AllStartFrom, SomeTests, weight, IsAnswer, IsHalf, IsSplit, IsStep, Ref, Node, Question, Pick, Split, Step, Known, Open}
use Rattle.sig_dd.proofs.Listed.{diagram-true, diagram-false}

-- q asks for the function that p asks for, and tests no more
pub record IsEasier (nodes : List Node) (p q : Question) : Type 0 where
  pub holds : HoldsAll nodes q
  pub function : (ts : List Bool) → asked nodes q ts ≡ asked nodes p ts
  pub starts : (b : ℕ) → AllStartFrom nodes b p → AllStartFrom nodes b q
  pub tests : (u : ℕ) → SomeTests nodes q u → SomeTests nodes p u
  pub lighter : weight q ≤ weight p

module _ (nodes : List Node) (p q : Question) (e : IsEasier nodes p q) where
  easier_half : (v : ℕ) (x : Bool) (k : Question) → IsHalf nodes q v x k → IsHalf nodes p v x k
  easier_half v x k h =
      let l = e.lighter in
      let m = h.smaller in
      record {
        holds = h.holds;
        function = λ ts at. h.function ts at ∙ e.function ts;
        later = h.later;
        tests = λ u t. e.tests u (h.tests u t);
        smaller = omega arith;
      }

  easier_split : (s : Split) → IsSplit nodes q s → IsSplit nodes p s
  easier_split s h = record {
    tested = e.tests s.variable h.tested;
    first = λ b st. h.first b (e.starts b st);
    low = easier_half s.variable false s.low h.low;
    high = easier_half s.variable true s.high h.high;
  }

  easier_answer : (r : Ref) → IsAnswer nodes q r → IsAnswer nodes p r
  easier_answer r a = record {
    holds = a.holds;
    function = λ ts. a.function ts ∙ e.function ts;
    starts = λ b st. a.starts b (e.starts b st);
  }

  -- a step of it is one of the harder question
  pub easier_step : (s : Step) → IsStep nodes q s → IsStep nodes p s
  easier_step (Known r) h = easier_answer r h
  easier_step (Open s) h = easier_split s h

-- the constant of the truth x
constant_is : (nodes : List Node) (r : Ref) (x : Bool) → r.number ≡ cond x 1 0 → diagram nodes r ≡ Constant x
constant_is nodes r true e = diagram-true nodes r e
constant_is nodes r false e = diagram-false nodes r e

module _ (nodes : List Node) (f : Ref) (node : 2 ≤ f.number) where
  -- where f has the truth x, now is was; and it tests no more than was
  pub record IsKnown (x : Bool) (was now : Ref) : Type 0 where
    pub holds : Holds nodes was → Holds nodes now
    pub function : (ts : List Bool) → test nodes f ts ≡ x → test nodes now ts ≡ test nodes was ts
    pub starts : (b : ℕ) → StartsFrom b (diagram nodes was) → StartsFrom b (diagram nodes now)
    pub tests : (u : ℕ) → Tests (diagram nodes now) u → Tests (diagram nodes was) u
    pub lighter : now.number ≤ was.number

  known_constant : (x : Bool) (was now : Ref) → was ≡ f → now.number ≡ cond x 1 0 → now.number ≤ 1 → IsKnown x was now
  unfolding value_at StartsFrom Tests
  known_constant x was now same constant small =
      let is = constant_is nodes now x constant in
      let number : was.number ≡ f.number = ap (λ (r : Ref). r.number) same in
      record {
        holds = λ h. omega arith;
        function = λ ts at. ap (λ d. value_at d ts) is ∙ sym at ∙ sym (ap (λ r. test nodes r ts) same);
        starts = λ b h. subst (StartsFrom b) (sym is) tt;
        tests = λ u t. absurd (subst (λ d. Tests d u) is t);
        lighter = omega arith;
      }

  known_same : (x : Bool) (was : Ref) → IsKnown x was was
  known_same x was = record { holds = λ h. h; function = λ ts at. refl; starts = λ b h. h; tests = λ u t. t; lighter = omega arith }

  pub known_true : (was now constant : Ref) → constant.number ≡ 1 → ((was ≡ f) × (now ≡ constant)) ⊎ (now ≡ was) → IsKnown true was now
  known_true was now constant is (inl (same, now_is)) =
      let number : now.number ≡ 1 = ap (λ (r : Ref). r.number) now_is ∙ is in
      known_constant true was now same number (omega arith)
  known_true was now constant is (inr same) = subst (IsKnown true was) (sym same) (known_same true was)

  pub known_false : (was now constant : Ref) → constant.number ≡ 0 → ((was ≡ f) × (now ≡ constant)) ⊎ (now ≡ was) → IsKnown false was now
  known_false was now constant is (inl (same, now_is)) =
      let number : now.number ≡ 0 = ap (λ (r : Ref). r.number) now_is ∙ is in
      known_constant false was now same number (omega arith)
  known_false was now constant is (inr same) = subst (IsKnown false was) (sym same) (known_same false was)

  choice : (a b b' c c' : Bool) → (a ≡ true → b' ≡ b) → (a ≡ false → c' ≡ c) → (if a then b' else c') ≡ (if a then b else c)
  choice true b b' c c' h k = h refl
  choice false b b' c c' h k = k refl

  pub easier : (g h i j : Ref) → HoldsAll nodes (Pick f g h) → IsKnown true g i → IsKnown false h j → IsEasier nodes (Pick f g h) (Pick f i j)
  easier g h i j held gi hj =
      let l = gi.lighter in
      let m = hj.lighter in
      record {
        holds = (held.0, gi.holds held.1, hj.holds held.2);
        function = λ ts. choice (test nodes f ts) (test nodes g ts) (test nodes i ts) (test nodes h ts) (test nodes j ts) (gi.function ts) (hj.function ts);
        starts = λ b s. (s.0, gi.starts b s.1, hj.starts b s.2);
        tests = λ u t. elim t [ inl x ↦ inl x | inr (inl y) ↦ inr (inl (gi.tests u y)) | inr (inr z) ↦ inr (inr (hj.tests u z)) ];
        lighter = omega arith;
      }
