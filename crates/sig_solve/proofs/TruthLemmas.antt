-- Lemmas on truths and on lists of variables.
use Rattle.sig_solve.proofs.Common.{◌≡◌, ◌≢◌, ◌⊎◌, inl, inr, ℕ, Bool, List, [], ◌∷◌, refl, sym, ◌∙◌, subst, Contains, cases_eq, truth_of, with_truth, truth_of-with_same, truth_of-with_other, contains_cons, contains_head, contains_later, contains_none}

-- a variable is in a list, or not
pub is_in : (xs : List ℕ) (v : ℕ) → Contains xs v ⊎ (Contains xs v → ⊥)
is_in [] v = inr (contains_none v)
is_in (x ∷ xs) v = by (cases_eq v x) (is_in xs v) where
  by : ((v ≡ x) ⊎ (v ≢ x)) → (Contains xs v ⊎ (Contains xs v → ⊥)) → Contains (x ∷ xs) v ⊎ (Contains (x ∷ xs) v → ⊥)
  by (inl e) rest = inl (subst (λ w. Contains (x ∷ xs) w) (sym e) (contains_head x xs))
  by (inr ne) (inl later) = inl (contains_later x v xs later)
  by (inr ne) (inr not) = inr (λ there. elim (contains_cons x v xs there) [ inl e ↦ ne e | inr later ↦ not later ])

-- truths that are those of one list at some variables, and of another one elsewhere
pub mixed : List ℕ → List Bool → List Bool → List Bool
mixed [] at a = a
mixed (v ∷ vs) at a = with_truth (mixed vs at a) v (truth_of at v)

pub mixed_at : (vs : List ℕ) (at a : List Bool) (u : ℕ) → Contains vs u → truth_of (mixed vs at a) u ≡ truth_of at u
unfolding mixed
mixed_at [] at a u there = absurd (contains_none u there)
mixed_at (v ∷ vs) at a u there = elim (cases_eq u v) [
  | inl e ↦ subst (λ w. truth_of (with_truth (mixed vs at a) v (truth_of at v)) w ≡ truth_of at w) (sym e) (truth_of-with_same (mixed vs at a) v (truth_of at v))
  | inr ne ↦ truth_of-with_other (mixed vs at a) v (truth_of at v) u ne ∙ elim (contains_cons v u vs there) [ inl e ↦ absurd (ne e) | inr later ↦ mixed_at vs at a u later ]
]

pub mixed_outside : (vs : List ℕ) (at a : List Bool) (u : ℕ) → (Contains vs u → ⊥) → truth_of a u ≡ truth_of (mixed vs at a) u
unfolding mixed
mixed_outside [] at a u out = refl
mixed_outside (v ∷ vs) at a u out =
    let ne : u ≢ v = λ e. out (subst (λ w. Contains (v ∷ vs) w) (sym e) (contains_head v vs)) in
    mixed_outside vs at a u (λ there. out (contains_later v u vs there)) ∙ sym (truth_of-with_other (mixed vs at a) v (truth_of at v) u ne)
