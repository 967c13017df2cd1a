-- Truths that agree where a function depends on them, and guards that stay known while registers are written.
use Rattle.sig_step.proofs.Common.{◌≡◌, ◌+◌, ◌∙◌, ◌++◌, ℕ, suc, ℤ, Bool, true, false, List, [], ◌∷◌, length, map, slice_get, Some, refl, sym, ap, subst, inl, inr, arith, append_assoc, length-append, eqb_tells, SigId, Depends, with_truth, Registers, is_true, truths_of, with_at, same_Some, same_truth, map_get}

with_truth_at : (pre : List Bool) (t b : Bool) (ts : List Bool) → with_truth (pre ++ t ∷ ts) (length pre) b ≡ pre ++ b ∷ ts
unfolding with_truth
with_truth_at [] t b ts = refl
with_truth_at (p ∷ pre) t b ts = ap (λ xs. p ∷ xs) (with_truth_at pre t b ts)

-- truths that differ at one place on which the function does not depend
flipped : (f : List Bool → Bool) (pre ts : List Bool) → (Depends f (length pre) → ⊥) → f (pre ++ false ∷ ts) ≡ f (pre ++ true ∷ ts)
flipped f pre ts free = elim (same_truth (f (pre ++ false ∷ ts)) (f (pre ++ true ∷ ts))) [
  | inl same ↦ same
  | inr differ ↦ absurd (free (pre ++ true ∷ ts, λ e. differ (ap f (sym (with_truth_at pre true false ts)) ∙ e ∙ ap f (with_truth_at pre true true ts))))
]

one_changed : (f : List Bool → Bool) (pre ts : List Bool) (t u : Bool) → (Depends f (length pre) → t ≡ u) → f (pre ++ t ∷ ts) ≡ f (pre ++ u ∷ ts)
one_changed f pre ts true true same = refl
one_changed f pre ts false false same = refl
one_changed f pre ts true false same = sym (flipped f pre ts (λ depends. absurd (let e : true ≡ false = same depends in cc)))
one_changed f pre ts false true same = flipped f pre ts (λ depends. absurd (let e : false ≡ true = same depends in cc))

agree_from : (f : List Bool → Bool) (pre ts us : List Bool) → length ts ≡ length us
    → ((j : ℕ) (t u : Bool) → Depends f (length pre + j) → slice_get ts j ≡ Some t → slice_get us j ≡ Some u → t ≡ u) → f (pre ++ ts) ≡ f (pre ++ us)
agree_from f pre [] [] same h = refl
agree_from f pre [] (u ∷ us) same h = absurd (omega arith)
agree_from f pre (t ∷ ts) [] same h = absurd (omega arith)
agree_from f pre (t ∷ ts) (u ∷ us) same h =
    let first = one_changed f pre ts t u (λ depends. h 0 t u (let e : length pre ≡ length pre + 0 = omega arith in subst (λ (n : ℕ). Depends f n) e depends) refl refl) in
    let longer : length (pre ++ u ∷ []) ≡ length pre + 1 = length-append pre (u ∷ []) in
    let rest = agree_from f (pre ++ u ∷ []) ts us (omega (arith, same)) (λ j x y depends at_x at_y.
    h (suc j) x y (let e : length (pre ++ u ∷ []) + j ≡ length pre + suc j = omega (arith, longer) in subst (λ (n : ℕ). Depends f n) e depends) at_x at_y) in
    first ∙ ap f (sym (append_assoc pre (u ∷ []) ts)) ∙ rest ∙ ap f (append_assoc pre (u ∷ []) us)

-- truths that agree on all on which a function depends give it one value
pub agree_where_needed : (f : List Bool → Bool) (ts us : List Bool) → length ts ≡ length us
    → ((j : ℕ) (t u : Bool) → Depends f j → slice_get ts j ≡ Some t → slice_get us j ≡ Some u → t ≡ u) → f ts ≡ f us
agree_where_needed f ts us same h =
    agree_from f [] ts us same (λ j t u depends. h j t u (let e : 0 + j ≡ j = omega arith in subst (λ (n : ℕ). Depends f n) e depends))

map_lengths : {X Y : Type 0} (f g : X → Y) (xs : List X) → length (map f xs) ≡ length (map g xs)
map_lengths f g [] = refl
map_lengths f g (x ∷ xs) = ap suc (map_lengths f g xs)

-- the truth of a condition stays where another signal is written
truth_stays : (x : SigId) (v : ℤ) (registers : Registers) (condition : SigId) → (condition.0 ≡ x.0 → ⊥)
    → is_true (registers condition.0) ≡ is_true (with_at x.0 (Some v) registers condition.0)
truth_stays x v registers condition other = elim (eqb_tells condition.0 x.0) [
  | inl same ↦ absurd (other same.1)
  | inr differ ↦ rw differ.0 refl
]

-- a function of the conditions stays where it does not depend on the one that is written
pub test_stays : (conditions : List SigId) (f : List Bool → Bool) (x : SigId) (v : ℤ) (registers : Registers)
    → ((j : ℕ) (condition : SigId) → slice_get conditions j ≡ Some condition → condition.0 ≡ x.0 → Depends f j → ⊥)
    → f (truths_of conditions registers) ≡ f (truths_of conditions (with_at x.0 (Some v) registers))
test_stays conditions f x v registers free =
    let old = λ (condition : SigId). is_true (registers condition.0) in
    let new = λ (condition : SigId). is_true (with_at x.0 (Some v) registers condition.0) in
    agree_where_needed f (truths_of conditions registers) (truths_of conditions (with_at x.0 (Some v) registers)) (map_lengths old new conditions)
    (λ j t u depends at_t at_u.
    let (a, at_a, is_t) = map_get old conditions j t at_t in
    let (b, at_b, is_u) = map_get new conditions j u at_u in
    let same : a ≡ b = same_Some a b (sym at_a ∙ at_b) in
    sym is_t ∙ truth_stays x v registers a (λ e. free j a at_a e depends) ∙ ap new same ∙ is_u)
