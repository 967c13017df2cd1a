-- What a test keeps of a list.
use Rattle.std.proofs.Common.{Bool, Contains, List, [], ap, append-nil, cond, false, filter, inl, inr, length, refl, subst, suc, sym, true, ℕ, ◌++◌, ◌∙◌, ◌∷◌, ◌≡◌}
use Rattle.std.proofs.lemmas.Bool.{false≢true}
use Rattle.std.proofs.lemmas.List.Elements.{filter-append}
use Rattle.sig_lists.proofs.Contained.{contains_cons, contains_head, contains_later, contains_none}

pub filter_keeps : {X : Type 0} (p : X → Bool) (xs : List X) (x : X) → p x ≡ true → filter p (xs ++ x ∷ []) ≡ filter p xs ++ x ∷ []
filter_keeps p xs x is = filter-append p xs (x ∷ []) ∙ ap (λ b. filter p xs ++ cond b (x ∷ []) []) is

pub filter_drops : {X : Type 0} (p : X → Bool) (xs : List X) (x : X) → p x ≡ false → filter p (xs ++ x ∷ []) ≡ filter p xs
filter_drops p xs x is = filter-append p xs (x ∷ []) ∙ ap (λ b. filter p xs ++ cond b (x ∷ []) []) is ∙ append-nil (filter p xs)

pub in_filter : {X : Type 0} (p : X → Bool) (xs : List X) (x : X) → Contains xs x → p x ≡ true → Contains (filter p xs) x
in_filter p [] x there is = absurd (contains_none x there)
in_filter {X} p (y ∷ xs) x there is = elim (contains_cons y x xs there) [
  | inl e ↦ subst (λ b. Contains (cond b (y ∷ filter p xs) (filter p xs)) x) (sym (ap p (sym e) ∙ is)) (subst (λ z. Contains (y ∷ filter p xs) z) (sym e) (contains_head y (filter p xs)))
  | inr later ↦ wider (p y) (in_filter p xs x later is)
] where
  wider : (b : Bool) → Contains (filter p xs) x → Contains (cond b (y ∷ filter p xs) (filter p xs)) x
  wider true at = contains_later y x (filter p xs) at
  wider false at = at

pub of_filter : {X : Type 0} (p : X → Bool) (xs : List X) (x : X) → Contains (filter p xs) x → Contains xs x × (p x ≡ true)
of_filter p [] x there = absurd (contains_none x there)
of_filter {X} p (y ∷ xs) x there = by (λ at. of_filter p xs x at) (p y) refl there where
  by : (Contains (filter p xs) x → Contains xs x × (p x ≡ true)) → (b : Bool) → p y ≡ b → Contains (cond b (y ∷ filter p xs) (filter p xs)) x → Contains (y ∷ xs) x × (p x ≡ true)
  by rest true e at = elim (contains_cons y x (filter p xs) at) [
    | inl same ↦ (subst (λ z. Contains (y ∷ xs) z) (sym same) (contains_head y xs), ap p same ∙ e)
    | inr later ↦ (contains_later y x xs (rest later).0, (rest later).1)
  ]
  by rest false e at = (contains_later y x xs (rest at).0, (rest at).1)

pub filter_same : (p q : ℕ → Bool) (xs : List ℕ) → ((x : ℕ) → Contains xs x → p x ≡ q x) → length (filter p xs) ≡ length (filter q xs)
filter_same p q [] same = refl
filter_same p q (x ∷ xs) same = by (p x) (q x) (same x (contains_head x xs)) (filter_same p q xs (λ y there. same y (contains_later x y xs there))) where
  by : (a b : Bool) → a ≡ b → length (filter p xs) ≡ length (filter q xs) → length (cond a (x ∷ filter p xs) (filter p xs)) ≡ length (cond b (x ∷ filter q xs) (filter q xs))
  by true true e rest = ap suc rest
  by false false e rest = rest
  by true false e rest = absurd (false≢true (sym e))
  by false true e rest = absurd (false≢true e)
