-- Decision diagrams as trees: two proper diagrams with one function are one, and a proper diagram
-- depends on exactly the variables that it tests.
use Rattle.sig_dd.proofs.Common.{◌≡◌, ◌≢◌, ℕ, zero, suc, ◌+◌, ◌<◌, ◌≤◌, Bool, true, false, cond, List, [], ◌∷◌, ◌⊎◌, inl, inr, refl, sym, ◌∙◌, ap, subst, true≢false, arith, false≢true, cases_lt, cases_eq, Diagram, Constant, Choice, truth_of, value_at, with_truth, Depends, Tests, StartsFrom}

pub truth_of-with_same : (ts : List Bool) (v : ℕ) (b : Bool) → truth_of (with_truth ts v b) v ≡ b
unfolding with_truth
truth_of-with_same [] zero b = refl
truth_of-with_same [] (suc v) b = truth_of-with_same [] v b
truth_of-with_same (t ∷ ts) zero b = refl
truth_of-with_same (t ∷ ts) (suc v) b = truth_of-with_same ts v b

pub truth_of-with_other : (ts : List Bool) (v : ℕ) (b : Bool) (u : ℕ) → u ≢ v → truth_of (with_truth ts v b) u ≡ truth_of ts u
unfolding with_truth
truth_of-with_other [] zero b zero ne = absurd (ne refl)
truth_of-with_other [] zero b (suc u) ne = refl
truth_of-with_other [] (suc v) b zero ne = refl
truth_of-with_other [] (suc v) b (suc u) ne = truth_of-with_other [] v b u (λ e. ne (ap suc e))
truth_of-with_other (t ∷ ts) zero b zero ne = absurd (ne refl)
truth_of-with_other (t ∷ ts) zero b (suc u) ne = refl
truth_of-with_other (t ∷ ts) (suc v) b zero ne = refl
truth_of-with_other (t ∷ ts) (suc v) b (suc u) ne = truth_of-with_other ts v b u (λ e. ne (ap suc e))

-- a diagram reads nothing but truths of variables
pub value_at-same : (d : Diagram) (s t : List Bool) → ((u : ℕ) → truth_of s u ≡ truth_of t u) → value_at d s ≡ value_at d t
unfolding value_at
value_at-same (Constant b) s t same = refl
value_at-same (Choice v low high) s t same =
    rw (same v) (rw (value_at-same low s t same, value_at-same high s t same))

-- the value at a choice, by the truth of its variable
pub value_at-choice : (v : ℕ) (low high : Diagram) (ts : List Bool) (b : Bool) → truth_of ts v ≡ b → value_at (Choice v low high) ts ≡ cond b (value_at high ts) (value_at low ts)
unfolding value_at
value_at-choice v low high ts b e = ap (λ x. cond x (value_at high ts) (value_at low ts)) e

-- reduced and ordered, all the way down
abbrev pub IsProper : Diagram → Type 0
IsProper (Constant b) = Unit {0}
IsProper (Choice v low high) =
    StartsFrom (suc v) low × StartsFrom (suc v) high × (low ≢ high) × IsProper low × IsProper high

pub StartsFrom-weaker : (d : Diagram) (a b : ℕ) → a ≤ b → StartsFrom b d → StartsFrom a d
unfolding StartsFrom
StartsFrom-weaker (Constant c) a b le h = tt
StartsFrom-weaker (Choice v low high) a b le h = omega arith

-- an earlier variable makes no difference
pub value_at-earlier : (d : Diagram) (b : ℕ) → IsProper d → StartsFrom b d → (v : ℕ) → v < b → (ts : List Bool) (x : Bool) → value_at d (with_truth ts v x) ≡ value_at d ts
unfolding value_at StartsFrom
value_at-earlier (Constant c) b p s v lt ts x = refl
value_at-earlier (Choice u low high) b p s v lt ts x =
    let ne : u ≢ v = omega arith in
    let later : v < suc u = omega arith in
    rw (truth_of-with_other ts v x u ne)
    (rw (value_at-earlier low (suc u) p.3 p.0 v later ts x, value_at-earlier high (suc u) p.4 p.1 v later ts x))

-- the variable of a choice, set: what is chosen, where that starts later
pub value_at-chosen : (v : ℕ) (low high : Diagram) → IsProper (Choice v low high) → (ts : List Bool) (b : Bool) → value_at (Choice v low high) (with_truth ts v b) ≡ cond b (value_at high ts) (value_at low ts)
value_at-chosen v low high p ts b =
    let lt : v < suc v = omega arith in
    value_at-choice v low high (with_truth ts v b) b (truth_of-with_same ts v b)
    ∙ rw (value_at-earlier low (suc v) p.3 p.0 v lt ts b, value_at-earlier high (suc v) p.4 p.1 v lt ts b)

-- the two have different values at some truths
abbrev pub Differ : Diagram → Diagram → Type 0
Differ d e = (ts : List Bool) × (value_at d ts ≢ value_at e ts)

Differ-swap : (d e : Diagram) → Differ d e → Differ e d
Differ-swap d e (ts, ne) = (ts, λ h. ne (sym h))

-- of two truths that differ, one differs from a third
one_differs : (x y b : Bool) → x ≢ y → (x ≢ b) ⊎ (y ≢ b)
one_differs true true b ne = absurd (ne refl)
one_differs false false b ne = absurd (ne refl)
one_differs true false true ne = inr (λ h. ne (sym h))
one_differs true false false ne = inl ne
one_differs false true true ne = inl ne
one_differs false true false ne = inr (λ h. ne (sym h))

-- a choice whose two sides differ is not a diagram that starts later
choice_differs : (v : ℕ) (low high e : Diagram) → IsProper (Choice v low high) → IsProper e → StartsFrom (suc v) e → Differ low high → Differ (Choice v low high) e
choice_differs v low high e p q later (ts, ne) =
    let lt : v < suc v = omega arith in
    elim (one_differs (value_at low ts) (value_at high ts) (value_at e ts) ne) [
      | inl ne_low ↦ (with_truth ts v false, λ h. ne_low (sym (value_at-chosen v low high p ts false) ∙ h ∙ value_at-earlier e (suc v) q later v lt ts false))
      | inr ne_high ↦ (with_truth ts v true, λ h. ne_high (sym (value_at-chosen v low high p ts true) ∙ h ∙ value_at-earlier e (suc v) q later v lt ts true))
    ]

-- two choices by one variable
choices_differ : (v : ℕ) (low high m n : Diagram) → IsProper (Choice v low high) → IsProper (Choice v m n) → (low ≡ m) ⊎ Differ low m → (high ≡ n) ⊎ Differ high n → (Choice v low high ≡ Choice v m n) ⊎ Differ (Choice v low high) (Choice v m n)
choices_differ v low high m n p q (inl e) (inl f) = inl (cc)
choices_differ v low high m n p q (inr (ts, ne)) s =
    inr (with_truth ts v false, λ h. ne (sym (value_at-chosen v low high p ts false) ∙ h ∙ value_at-chosen v m n q ts false))
choices_differ v low high m n p q (inl e) (inr (ts, ne)) =
    inr (with_truth ts v true, λ h. ne (sym (value_at-chosen v low high p ts true) ∙ h ∙ value_at-chosen v m n q ts true))

size : Diagram → ℕ
size (Constant b) = 0
size (Choice v low high) = suc (size low + size high)

-- two proper diagrams are one, or differ at some truths
same_or_differ : (k : ℕ) (d e : Diagram) → size d + size e ≤ k → IsProper d → IsProper e → (d ≡ e) ⊎ Differ d e
unfolding size value_at StartsFrom
same_or_differ k (Constant true) (Constant true) le p q = inl refl
same_or_differ k (Constant false) (Constant false) le p q = inl refl
same_or_differ k (Constant true) (Constant false) le p q = inr ([], true≢false)
same_or_differ k (Constant false) (Constant true) le p q = inr ([], false≢true)
same_or_differ zero (Choice v low high) e le p q = absurd (omega arith)
same_or_differ zero (Constant a) (Choice v low high) le p q = absurd (omega arith)
same_or_differ (suc k) (Constant a) (Choice v low high) le p q =
    elim (same_or_differ k low high (omega arith) q.3 q.4) [
      | inl e ↦ absurd (q.2 e)
      | inr d ↦ inr (Differ-swap (Choice v low high) (Constant a) (choice_differs v low high (Constant a) q p tt d))
    ]
same_or_differ (suc k) (Choice v low high) (Constant a) le p q =
    elim (same_or_differ k low high (omega arith) p.3 p.4) [
      | inl e ↦ absurd (p.2 e)
      | inr d ↦ inr (choice_differs v low high (Constant a) p q tt d)
    ]
same_or_differ (suc k) (Choice v low high) (Choice u m n) le p q =
    elim (cases_lt v u) [
      | inl lt ↦ elim (same_or_differ k low high (omega arith) p.3 p.4) [
        | inl e ↦ absurd (p.2 e)
        | inr d ↦ inr (choice_differs v low high (Choice u m n) p q (omega arith) d)
      ]
      | inr ge ↦ elim (cases_lt u v) [
        | inl lt ↦ elim (same_or_differ k m n (omega arith) q.3 q.4) [
          | inl e ↦ absurd (q.2 e)
          | inr d ↦ inr (Differ-swap (Choice u m n) (Choice v low high) (choice_differs u m n (Choice v low high) q p (omega arith) d))
        ]
        | inr le' ↦
            let e : u ≡ v = omega arith in
            let q' : IsProper (Choice v m n) = subst (λ w. IsProper (Choice w m n)) e q in
            let r = choices_differ v low high m n p q' (same_or_differ k low m (omega arith) p.3 q.3) (same_or_differ k high n (omega arith) p.4 q.4) in
            subst (λ w. (Choice v low high ≡ Choice w m n) ⊎ Differ (Choice v low high) (Choice w m n)) (sym e) r
      ]
    ]

pub equal_or_differ : (d e : Diagram) → IsProper d → IsProper e → (d ≡ e) ⊎ Differ d e
equal_or_differ d e p q = same_or_differ (size d + size e) d e (omega arith) p q

-- two proper diagrams with one function are one
pub one_diagram : (d e : Diagram) → IsProper d → IsProper e → ((ts : List Bool) → value_at d ts ≡ value_at e ts) → d ≡ e
one_diagram d e p q same = elim (equal_or_differ d e p q) [ inl h ↦ h | inr (ts, ne) ↦ absurd (ne (same ts)) ]

-- where a choice depends on another variable than its own, one of its sides does
side_tests : (u : ℕ) (low high : Diagram) (v : ℕ) (ts : List Bool) (b : Bool) → truth_of ts u ≡ b → u ≢ v
    → (value_at low (with_truth ts v false) ≢ value_at low (with_truth ts v true) → Tests low v)
    → (value_at high (with_truth ts v false) ≢ value_at high (with_truth ts v true) → Tests high v)
    → value_at (Choice u low high) (with_truth ts v false) ≢ value_at (Choice u low high) (with_truth ts v true) → Tests (Choice u low high) v
unfolding Tests
side_tests u low high v ts true e apart in_low in_high ne =
    let at = λ (x : Bool). value_at-choice u low high (with_truth ts v x) true (truth_of-with_other ts v x u apart ∙ e) in
    inr (inr (in_high (λ h. ne (at false ∙ h ∙ sym (at true)))))
side_tests u low high v ts false e apart in_low in_high ne =
    let at = λ (x : Bool). value_at-choice u low high (with_truth ts v x) false (truth_of-with_other ts v x u apart ∙ e) in
    inr (inl (in_low (λ h. ne (at false ∙ h ∙ sym (at true)))))

tests_where : (d : Diagram) (v : ℕ) (ts : List Bool) → value_at d (with_truth ts v false) ≢ value_at d (with_truth ts v true) → Tests d v
unfolding Tests value_at
tests_where (Constant b) v ts ne = ne refl
tests_where (Choice u low high) v ts ne =
    elim (cases_eq v u) [
      | inl e ↦ inl e
      | inr apart ↦ side_tests u low high v ts (truth_of ts u) refl (λ e. apart (sym e)) (tests_where low v ts) (tests_where high v ts) ne
    ]

-- a diagram depends only on variables that it tests
pub Tests-depends : (d : Diagram) (v : ℕ) → Depends (value_at d) v → Tests d v
Tests-depends d v (ts, ne) = tests_where d v ts ne

-- no variable is tested before the first
pub Tests-later : (d : Diagram) (b v : ℕ) → IsProper d → StartsFrom b d → Tests d v → b ≤ v
unfolding Tests StartsFrom
Tests-later (Constant c) b v p s t = absurd t
Tests-later (Choice u low high) b v p s (inl e) = omega arith
Tests-later (Choice u low high) b v p s (inr (inl t)) =
    let le : suc u ≤ v = Tests-later low (suc u) v p.3 p.0 t in omega arith
Tests-later (Choice u low high) b v p s (inr (inr t)) =
    let le : suc u ≤ v = Tests-later high (suc u) v p.4 p.1 t in omega arith

-- two variables may be set in either order
pub with_truth-swap : (ts : List Bool) (u v : ℕ) (a b : Bool) → u ≢ v → (w : ℕ) → truth_of (with_truth (with_truth ts u a) v b) w ≡ truth_of (with_truth (with_truth ts v b) u a) w
with_truth-swap ts u v a b apart w =
    elim (cases_eq w v) [
      | inl e ↦
          let at_v : truth_of (with_truth (with_truth ts v b) u a) v ≡ b = truth_of-with_other (with_truth ts v b) u a v (λ h. apart (sym h)) ∙ truth_of-with_same ts v b in
          let was_v : truth_of (with_truth (with_truth ts u a) v b) v ≡ b = truth_of-with_same (with_truth ts u a) v b in
          rw e (was_v ∙ sym at_v)
      | inr not_v ↦ elim (cases_eq w u) [
        | inl e ↦
            let at_u : truth_of (with_truth (with_truth ts u a) v b) u ≡ a = truth_of-with_other (with_truth ts u a) v b u apart ∙ truth_of-with_same ts u a in
            let was_u : truth_of (with_truth (with_truth ts v b) u a) u ≡ a = truth_of-with_same (with_truth ts v b) u a in
            rw e (at_u ∙ sym was_u)
        | inr not_u ↦
            truth_of-with_other (with_truth ts u a) v b w not_v ∙ truth_of-with_other ts u a w not_u
            ∙ sym (truth_of-with_other (with_truth ts v b) u a w not_u ∙ truth_of-with_other ts v b w not_v)
      ]
    ]

-- what a side depends on, the choice depends on
side_depends : (u : ℕ) (low high side : Diagram) (x : Bool) → cond x high low ≡ side → IsProper side → StartsFrom (suc u) side → (v : ℕ) → u < v → Depends (value_at side) v → Depends (value_at (Choice u low high)) v
side_depends u low high side x is p s v lt (ts, ne) =
    (with_truth ts u x, λ h. ne (sym (at false) ∙ h ∙ at true))
  where
    apart : u ≢ v
    apart = omega arith

    set_u : (b : Bool) → truth_of (with_truth (with_truth ts u x) v b) u ≡ x
    set_u b = truth_of-with_other (with_truth ts u x) v b u apart ∙ truth_of-with_same ts u x

    chosen : (b y : Bool) (us : List Bool) → cond y high low ≡ side → truth_of us u ≡ y → value_at (Choice u low high) us ≡ value_at side us
    chosen b true us e h = value_at-choice u low high us true h ∙ ap (λ d. value_at d us) e
    chosen b false us e h = value_at-choice u low high us false h ∙ ap (λ d. value_at d us) e

    early : u < suc u
    early = omega arith

    at : (b : Bool) → value_at (Choice u low high) (with_truth (with_truth ts u x) v b) ≡ value_at side (with_truth ts v b)
    at b = chosen b x (with_truth (with_truth ts u x) v b) is (set_u b)
        ∙ value_at-same side _ _ (with_truth-swap ts u v x b apart)
        ∙ value_at-earlier side (suc u) p s u early (with_truth ts v b) x

-- a proper diagram depends on each variable that it tests
pub Depends-tests : (d : Diagram) (v : ℕ) → IsProper d → Tests d v → Depends (value_at d) v
unfolding Tests
Depends-tests (Constant b) v p t = absurd t
Depends-tests (Choice u low high) v p (inl e) =
    elim (equal_or_differ low high p.3 p.4) [
      | inl same ↦ absurd (p.2 same)
      | inr (ts, ne) ↦ subst (Depends (value_at (Choice u low high))) (sym e)
          (ts, λ h. ne (sym (value_at-chosen u low high p ts false) ∙ h ∙ value_at-chosen u low high p ts true))
    ]
Depends-tests (Choice u low high) v p (inr (inl t)) =
    let lt : suc u ≤ v = Tests-later low (suc u) v p.3 p.0 t in
    side_depends u low high low false refl p.3 p.0 v (omega arith) (Depends-tests low v p.3 t)
Depends-tests (Choice u low high) v p (inr (inr t)) =
    let lt : suc u ≤ v = Tests-later high (suc u) v p.4 p.1 t in
    side_depends u low high high true refl p.4 p.1 v (omega arith) (Depends-tests high v p.4 t)
