-- A step of a question answers it, or splits it.
use Rattle.sig_dd.proofs.Common.{◌≡◌, ◌≢◌, ℕ, suc, ◌<◌, ◌≤◌, Bool, true, false, List, ◌⊎◌, inl, inr, Some, refl, sym, ◌∙◌, ap, subst, arith, if◌then◌else◌, value_at, with_truth, StartsFrom, Holds, node_of, diagram, test, IsReduced, HasVariable, IsSide, AllStartFrom, SomeTests, SomeHas, IsAnswer, IsHalf, IsSplit, Ref, Node, Question, Pick, Fix}
use Rattle.sig_dd.proofs.Trees.{value_at-earlier, StartsFrom-weaker, truth_of-with_same, truth_of-with_other}
use Rattle.sig_dd.proofs.Listed.{diagram-true, diagram-false}
use Rattle.sig_dd.proofs.Canonical.{proper}
use Rattle.sig_dd.proofs.Sides.{HasVariable-node, tests_own, own_first, starts_own, starts_at, variable_from, IsSide-child}

module _ (nodes : List Node) (f g h : Ref) where
  pub answer_true : f.number ≡ 1 → Holds nodes g → IsAnswer nodes (Pick f g h) g
  unfolding value_at
  answer_true e held = record {
    holds = held;
    function = λ ts. sym (ap (λ d. if value_at d ts then test nodes g ts else test nodes h ts) (diagram-true nodes f e));
    starts = λ b s. s.1;
  }

  pub answer_false : f.number ≡ 0 → Holds nodes h → IsAnswer nodes (Pick f g h) h
  unfolding value_at
  answer_false e held = record {
    holds = held;
    function = λ ts. sym (ap (λ d. if value_at d ts then test nodes g ts else test nodes h ts) (diagram-false nodes f e));
    starts = λ b s. s.2;
  }

  same_either : (b x : Bool) → x ≡ (if b then x else x)
  same_either true x = refl
  same_either false x = refl

  pub answer_same : g ≡ h → Holds nodes g → IsAnswer nodes (Pick f g h) g
  answer_same e held = record {
    holds = held;
    function = λ ts. same_either (test nodes f ts) (test nodes g ts) ∙ ap (λ r. if test nodes f ts then test nodes g ts else test nodes r ts) e;
    starts = λ b s. s.1;
  }

  itself : (b : Bool) → b ≡ (if b then true else false)
  itself true = refl
  itself false = refl

  pub answer_itself : g.number ≡ 1 → h.number ≡ 0 → Holds nodes f → IsAnswer nodes (Pick f g h) f
  unfolding value_at
  answer_itself e z held = record {
    holds = held;
    function = λ ts. itself (test nodes f ts)
        ∙ ap (λ d. if test nodes f ts then value_at d ts else false) (sym (diagram-true nodes g e))
        ∙ ap (λ d. if test nodes f ts then test nodes g ts else value_at d ts) (sym (diagram-false nodes h z));
    starts = λ b s. s.0;
  }

module _ (nodes : List Node) (reduced : IsReduced nodes) (f : Ref) (held : Holds nodes f) (v : ℕ) (x : Bool) where
  pub answer_later : StartsFrom (suc v) (diagram nodes f) → IsAnswer nodes (Fix f v x) f
  answer_later later =
      let lt : v < suc v = omega arith in
      record {
        holds = held;
        function = λ ts. sym (value_at-earlier (diagram nodes f) (suc v) (proper nodes reduced f held) later v lt ts x);
        starts = λ b s. s;
      }

  pub answer_child : (c : Ref) → IsSide nodes f v x c → HasVariable nodes f v → ((b : ℕ) → StartsFrom b (diagram nodes f) → b ≤ v) → IsAnswer nodes (Fix f v x) c
  answer_child c side has first =
      let lt : v < suc v = omega arith in
      record {
        holds = side.holds;
        function = λ ts. sym (value_at-earlier (diagram nodes c) (suc v) (proper nodes reduced c side.holds) side.later v lt ts x)
            ∙ side.function (with_truth ts v x) (truth_of-with_same ts v x);
        starts = λ b s. let le = first b s in StartsFrom-weaker (diagram nodes c) b (suc v) (omega arith) side.later;
      }

  -- a side by an earlier variable
  pub half_fix : (u : ℕ) (y : Bool) (c : Ref) → u ≢ v → IsSide nodes f u y c → HasVariable nodes f u → IsHalf nodes (Fix f v x) u y (Fix c v x)
  half_fix u y c apart side has = record {
    holds = side.holds;
    function = λ ts at. side.function (with_truth ts v x) (truth_of-with_other ts v x u apart ∙ at);
    later = side.later;
    tests = side.tests;
    smaller = side.smaller has;
  }

module _ (nodes : List Node) (reduced : IsReduced nodes) (f g h : Ref) (held_f : Holds nodes f) (held_g : Holds nodes g) (held_h : Holds nodes h) (t u v : ℕ)
    (has : HasVariable nodes f t) (u_le : u ≤ t) (u_starts : StartsFrom u (diagram nodes g)) (u_one : (u ≡ t) ⊎ HasVariable nodes g u)
    (v_le : v ≤ u) (v_starts : StartsFrom v (diagram nodes h)) (v_one : (v ≡ u) ⊎ HasVariable nodes h v) where
  -- the least variable of three is where they start
  pub pick_starts : AllStartFrom nodes v (Pick f g h)
  pick_starts = (starts_own nodes reduced f held_f t has v (omega arith), StartsFrom-weaker (diagram nodes g) v u v_le u_starts, v_starts)

  -- and one of them has it
  pub pick_has : SomeHas nodes (Pick f g h) v
  pick_has = elim v_one [
    | inr has_h ↦ inr (inr has_h)
    | inl e ↦ elim u_one [
      | inr has_g ↦ inr (inl (subst (HasVariable nodes g) (sym e) has_g))
      | inl e' ↦ inl (subst (HasVariable nodes f) (sym (e ∙ e')) has)
    ]
  ]

  -- where the variable has a truth, the choice asks for the sides of the three
  pub half_pick : (x : Bool) (a b c : Ref) → IsSide nodes f v x a → IsSide nodes g v x b → IsSide nodes h v x c → IsHalf nodes (Pick f g h) v x (Pick a b c)
  half_pick x a b c sf sg sh = record {
    holds = (sf.holds, sg.holds, sh.holds);
    function = λ ts at.
        ap (λ y. if y then test nodes b ts else test nodes c ts) (sf.function ts at)
        ∙ ap (λ y. if test nodes f ts then y else test nodes c ts) (sg.function ts at)
        ∙ ap (λ y. if test nodes f ts then test nodes g ts else y) (sh.function ts at);
    later = (sf.later, sg.later, sh.later);
    tests = λ u t. elim t [ inl i ↦ inl (sf.tests u i) | inr (inl j) ↦ inr (inl (sg.tests u j)) | inr (inr k) ↦ inr (inr (sh.tests u k)) ];
    smaller = elim pick_has [
      | inl i ↦ let l = sf.smaller i in let m = sg.at_most in let n = sh.at_most in omega arith
      | inr (inl j) ↦ let l = sf.at_most in let m = sg.smaller j in let n = sh.at_most in omega arith
      | inr (inr k) ↦ let l = sf.at_most in let m = sg.at_most in let n = sh.smaller k in omega arith
    ];
  }

  pub pick_tests : SomeTests nodes (Pick f g h) v
  pick_tests = elim pick_has [
    | inl x ↦ inl (tests_own nodes reduced f held_f v x)
    | inr (inl y) ↦ inr (inl (tests_own nodes reduced g held_g v y))
    | inr (inr z) ↦ inr (inr (tests_own nodes reduced h held_h v z))
  ]

  pub pick_first : (b : ℕ) → AllStartFrom nodes b (Pick f g h) → b ≤ v
  pick_first b s = elim pick_has [
    | inl x ↦ own_first nodes reduced f held_f v x b s.0
    | inr (inl y) ↦ own_first nodes reduced g held_g v y b s.1
    | inr (inr z) ↦ own_first nodes reduced h held_h v z b s.2
  ]

  -- the sides of the three split the choice
  pub sides_split : (al bl cl ah bh ch : Ref) (low high : Question) → low ≡ Pick al bl cl → high ≡ Pick ah bh ch → IsSide nodes f v false al → IsSide nodes g v false bl → IsSide nodes h v false cl
      → IsSide nodes f v true ah → IsSide nodes g v true bh → IsSide nodes h v true ch → IsSplit nodes (Pick f g h) (record { variable = v; low = low; high = high })
  sides_split al bl cl ah bh ch low high low_is high_is fl gl hl fh gh hh = record {
    tested = pick_tests;
    first = pick_first;
    low = subst (IsHalf nodes (Pick f g h) v false) (sym low_is) (half_pick false al bl cl fl gl hl);
    high = subst (IsHalf nodes (Pick f g h) v true) (sym high_is) (half_pick true ah bh ch fh gh hh);
  }

module _ (nodes : List Node) (reduced : IsReduced nodes) (f : Ref) (held : Holds nodes f) (n : Node) (is : Some n ≡ node_of nodes f) (v : ℕ) (x : Bool) where
  -- the node's variable comes after v
  pub fix_later : v < n.variable → IsAnswer nodes (Fix f v x) f
  fix_later lt = answer_later nodes reduced f held v x (starts_at nodes reduced f held n is (suc v) (omega arith))

  -- it is v
  pub fix_here : n.variable ≡ v → (c : Ref) → c ≡ (if x then n.high else n.low) → IsAnswer nodes (Fix f v x) c
  fix_here e c at =
      answer_child nodes reduced f held v x c
      (subst (λ u. IsSide nodes f u x c) e (IsSide-child nodes reduced f held n is x c at))
      (subst (HasVariable nodes f) e (HasVariable-node nodes reduced f held n is))
      (λ b s. let le = variable_from nodes reduced f held n is b s in omega arith)

  -- it comes before v, and splits the question
  pub fix_split : n.variable < v → (low high : Ref) → low ≡ n.low → high ≡ n.high → IsSplit nodes (Fix f v x) (record { variable = n.variable; low = Fix low v x; high = Fix high v x })
  fix_split lt low high l h =
      let has = HasVariable-node nodes reduced f held n is in
      record {
        tested = tests_own nodes reduced f held n.variable has;
        first = λ b s. variable_from nodes reduced f held n is b s;
        low = half_fix nodes reduced f held v x n.variable false low (omega arith) (IsSide-child nodes reduced f held n is false low l) has;
        high = half_fix nodes reduced f held v x n.variable true high (omega arith) (IsSide-child nodes reduced f held n is true high h) has;
      }
