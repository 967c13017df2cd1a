-- On what functions of others depend.
use Rattle.sig_dd.proofs.Common.{◌≡◌, ◌≢◌, ℕ, ◌≤◌, Bool, true, false, List, [], ◌⊎◌, inl, inr, refl, sym, ◌∙◌, ap, subst, ◌||◌, IsTrue, length, if◌then◌else◌, arith, false≢true, cases_eq, pow_mono, truth_of, with_truth, Depends, allowance, diagram, test, IsRefOf, Ref, Node, same_truth}
use Rattle.sig_dd.proofs.CallerLemmas.{Depends-of_two}
use Rattle.sig_dd.proofs.Functions.{fixed_twice}
use Rattle.sig_dd.proofs.Trees.{truth_of-with_same, truth_of-with_other, value_at-same, with_truth-swap}

pub allowance_rises : (vs ws : List ℕ) → length vs ≤ length ws → allowance vs ≤ allowance ws
allowance_rises vs ws le = let more = pow_mono le in omega arith

module _ (nodes : List Node) (f : List Bool → Bool) (r : Ref) (is : IsRefOf nodes f r) (v : ℕ) where
  pub ref_depends : Depends (test nodes r) v → Depends f v
  ref_depends (ts, ne) = (ts, λ e. ne (is.function _ ∙ e ∙ sym (is.function _)))

  pub function_depends : Depends f v → Depends (test nodes r) v
  function_depends (ts, ne) = (ts, λ e. ne (sym (is.function _) ∙ e ∙ is.function _))

pub variable_depends : (u v : ℕ) → Depends (λ ts. truth_of ts u) v → v ≡ u
variable_depends u v (ts, ne) = elim (cases_eq v u) [
  | inl e ↦ e
  | inr apart ↦
      let other : u ≢ v = λ e. apart (sym e) in
      absurd (ne (truth_of-with_other ts v false u other ∙ sym (truth_of-with_other ts v true u other)))
]

pub depends_variable : (u v : ℕ) → v ≡ u → Depends (λ ts. truth_of ts u) v
depends_variable u v e =
    subst (λ w. Depends (λ ts. truth_of ts u) w) (sym e)
    ([], λ h. false≢true (sym (truth_of-with_same [] u false) ∙ h ∙ truth_of-with_same [] u true))

pub choice_depends : (f g h : List Bool → Bool) (v : ℕ) → Depends (λ ts. if f ts then g ts else h ts) v → Depends f v ⊎ (Depends g v ⊎ Depends h v)
choice_depends f g h v (ts, ne) =
    elim (same_truth (f (with_truth ts v false)) (f (with_truth ts v true))) [
      | inr apart ↦ inl (ts, apart)
      | inl e ↦ elim (same_truth (g (with_truth ts v false)) (g (with_truth ts v true))) [
        | inr apart ↦ inr (inl (ts, apart))
        | inl e' ↦ inr (inr (ts, λ e''. ne (λ j. if e j then e' j else e'' j)))
      ]
    ]

module _ (nodes : List Node) (f : Ref) (v : ℕ) where
  pub fixed_apart : (x : Bool) (u : ℕ) → Depends (λ ts. test nodes f (with_truth ts v x)) u → u ≡ v → ⊥
  fixed_apart x u (ts, ne) e =
      ne (subst (λ w. test nodes f (with_truth (with_truth ts w false) v x) ≡ test nodes f (with_truth (with_truth ts w true) v x)) (sym e) (fixed_twice nodes f v x ts false true))

  pub fixed_depends : (x : Bool) (u : ℕ) → Depends (λ ts. test nodes f (with_truth ts v x)) u → Depends (test nodes f) u
  fixed_depends x u (ts, ne) = elim (cases_eq u v) [
    | inl e ↦ absurd (fixed_apart x u (ts, ne) e)
    | inr apart ↦
        let swap = λ (b : Bool). value_at-same (diagram nodes f) _ _ (with_truth-swap ts u v b x apart) in
        (with_truth ts v x, λ e. ne (swap false ∙ e ∙ sym (swap true)))
  ]

  pub fixed : (x : Bool) (u : ℕ) → Depends (λ ts. test nodes f (with_truth ts v x)) u → Depends (test nodes f) u × (u ≡ v → ⊥)
  fixed x u d = (fixed_depends x u d, fixed_apart x u d)

  pub forgotten : (u : ℕ) → Depends (λ ts. test nodes f (with_truth ts v false) || test nodes f (with_truth ts v true)) u → Depends (test nodes f) u × (u ≡ v → ⊥)
  forgotten u d =
      elim (Depends-of_two (λ x y. x || y) (λ ts. test nodes f (with_truth ts v false)) (λ ts. test nodes f (with_truth ts v true)) u d) [
        | inl low ↦ fixed false u low
        | inr high ↦ fixed true u high
      ]

  either : (P : Bool → Bool) → IsTrue (P false || P true) → (x : Bool) × IsTrue (P x)
  either P t = by (P false) (P true) refl refl t
    where
      by : (a b : Bool) → P false ≡ a → P true ≡ b → IsTrue (a || b) → (x : Bool) × IsTrue (P x)
      by true b e e' t = (false, e)
      by false b e e' t = (true, e' ∙ t)

  one_of : (P : Bool → Bool) (x : Bool) → IsTrue (P x) → IsTrue (P false || P true)
  one_of P true t = ap (λ b. P false || b) t ∙ elim (P false) as (λ a. (a || true) ≡ true) [ true ↦ refl | false ↦ refl ]
  one_of P false t = ap (λ a. a || P true) t

  pub some_truth : (ts : List Bool) → IsTrue (test nodes f (with_truth ts v false) || test nodes f (with_truth ts v true)) → (x : Bool) × IsTrue (test nodes f (with_truth ts v x))
  some_truth ts = either (λ x. test nodes f (with_truth ts v x))

  pub truth_some : (ts : List Bool) → (x : Bool) × IsTrue (test nodes f (with_truth ts v x)) → IsTrue (test nodes f (with_truth ts v false) || test nodes f (with_truth ts v true))
  truth_some ts (x, t) = one_of (λ x. test nodes f (with_truth ts v x)) x t
