-- The least of the places at which actors failed.
use Rattle.sig_settling_laws.proofs.Common.{◌≡◌, ◌<◌, inl, inr, ℕ, Bool, true, false, not, cond, refl, ap, sym, subst, ◌∙◌, None, Option, Some, Place, is_before, lesser, NotAfter, before_onward, not_before_itself, reached_not_after, same_places, IsLeastFailure, both_ways, cases_Bool, cases_eq}

no_place : {A : Type 0} (p : Place) → None ≡ Some p → A
no_place {A} p is = absurd (let e : None ≡ Some p = is in cc)

same_place : (p q : Place) → Some p ≡ Some q → p ≡ q
same_place p q is = let e : Some p ≡ Some q = is in cc

module _ (count : ℕ) where
  -- of failures that are the same the least is the same
  pub least_same : (f g : ℕ → Option Place) (word : Option Place) → ((k : ℕ) → k < count → g k ≡ f k) → IsLeastFailure count f word → IsLeastFailure count g word
  least_same f g None same least = λ k lt. same k lt ∙ least k lt
  least_same f g (Some word) same least = (
    (least.0.0, least.0.1, same least.0.0 least.0.1 ∙ least.0.2),
    λ k place lt is. least.1 k place lt (sym (same k lt) ∙ is),
  )

  -- one more fails
  module _ (f g : ℕ → Option Place) (k : ℕ) (lt : k < count) (place : Place) (here : g k ≡ Some place) (none : f k ≡ None) (others : (m : ℕ) → ((m ≡ k) → ⊥) → g m ≡ f m) where
    first_failure : ((m : ℕ) → m < count → f m ≡ None) → IsLeastFailure count g (Some place)
    first_failure all = (
      (k, lt, here),
      λ m p within is. elim (cases_eq m k) [
        | inl same ↦ subst (λ (q : Place). is_before q place ≡ false) (same_place place p (sym here ∙ ap g (sym same) ∙ is)) (not_before_itself place)
        | inr apart ↦ no_place p (sym (all m within) ∙ sym (others m apart) ∙ is)
      ],
    )

    further : (word : Place) → IsLeastFailure count f (Some word) → (b : Bool) → is_before place word ≡ b → IsLeastFailure count g (Some (cond b place word))
    further word least true before = (
      (k, lt, here),
      λ m p within is. elim (cases_eq m k) [
        | inl same ↦ subst (λ (q : Place). is_before q place ≡ false) (same_place place p (sym here ∙ ap g (sym same) ∙ is)) (not_before_itself place)
        | inr apart ↦ elim (cases_Bool (is_before p place)) [
          | inl less ↦ absurd (both_ways (is_before p word) (before_onward p place word less before) (least.1 m p within (sym (others m apart) ∙ is)))
          | inr more ↦ more
        ]
      ],
    )
    further word least false not_before = (
      (
        least.0.0,
        least.0.1,
        elim (cases_eq least.0.0 k) [
          | inl same ↦ no_place word (sym none ∙ ap f (sym same) ∙ least.0.2)
          | inr apart ↦ others least.0.0 apart ∙ least.0.2
        ],
      ),
      λ m p within is. elim (cases_eq m k) [
        | inl same ↦ subst (λ (q : Place). is_before q word ≡ false) (same_place place p (sym here ∙ ap g (sym same) ∙ is)) not_before
        | inr apart ↦ least.1 m p within (sym (others m apart) ∙ is)
      ],
    )

    pub least_lesser : (word : Option Place) → IsLeastFailure count f word → IsLeastFailure count g (Some (lesser word place))
    least_lesser None all = first_failure all
    least_lesser (Some word) least = further word least (is_before place word) refl

  -- there is one least failure
  neither : (a b : Place) → is_before a b ≡ false → NotAfter b a
  neither a b not_before = reached_not_after b a (ap not not_before)

  pub one_least : (f : ℕ → Option Place) (word other : Option Place) → IsLeastFailure count f word → IsLeastFailure count f other → word ≡ other
  one_least f None None one two = refl
  one_least f None (Some q) one two = no_place q (sym (one two.0.0 two.0.1) ∙ two.0.2)
  one_least f (Some p) None one two = no_place p (sym (two one.0.0 one.0.1) ∙ one.0.2)
  one_least f (Some p) (Some q) one two =
      ap Some (same_places p q (neither q p (one.1 two.0.0 q two.0.1 two.0.2)) (neither p q (two.1 one.0.0 p one.0.1 one.0.2)))
