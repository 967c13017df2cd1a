-- An item of a list put in place of another, and one more item.
use Rattle.sig_work.proofs.Common.{◌≡◌, ◌<◌, ◌≤◌, ◌+◌, ◌++◌, ◌∙◌, ◌⊎◌, inl, inr, ℕ, zero, suc, List, [], ◌∷◌, length, get_or, set, take, refl, ap, sym, subst, arith, None, Some, slice_get, same_Some, slice_get-get_or}

module _ {A : Type 0} where
  pub set_apart : (xs : List A) (k : ℕ) (x : A) (m : ℕ) → ((m ≡ k) → ⊥) → slice_get (set xs k x) m ≡ slice_get xs m
  set_apart [] k x m apart = refl
  set_apart (y ∷ xs) zero x zero apart = absurd (apart refl)
  set_apart (y ∷ xs) zero x (suc m) apart = refl
  set_apart (y ∷ xs) (suc k) x zero apart = refl
  set_apart (y ∷ xs) (suc k) x (suc m) apart = set_apart xs k x m (λ e. apart (ap suc e))

  -- an item that is read
  pub item_at : (xs : List A) (k : ℕ) (d : A) → k < length xs → d ≡ get_or xs k d → slice_get xs k ≡ Some d
  item_at xs k d lt is = slice_get-get_or xs k d lt ∙ ap Some (sym is)

  pub get_past : (xs : List A) (k : ℕ) → length xs ≤ k → slice_get xs k ≡ None
  get_past [] k past = refl
  get_past (x ∷ xs) zero past = absurd (omega (arith, past))
  get_past (x ∷ xs) (suc k) past = get_past xs k (omega (arith, past))

  -- ---- of two lists, one behind the other

  pub get_front : (xs ys : List A) (k : ℕ) (x : A) → slice_get xs k ≡ Some x → slice_get (xs ++ ys) k ≡ Some x
  get_front [] ys k x is = absurd (let e : None ≡ Some x = is in cc)
  get_front (y ∷ xs) ys zero x is = is
  get_front (y ∷ xs) ys (suc k) x is = get_front xs ys k x is

  pub get_back : (xs ys : List A) (k : ℕ) (x : A) → slice_get ys k ≡ Some x → slice_get (xs ++ ys) (length xs + k) ≡ Some x
  get_back [] ys k x is = subst (λ i. slice_get ys i ≡ Some x) (let e : k ≡ 0 + k = omega arith in e) is
  get_back (y ∷ xs) ys k x is = subst (λ i. slice_get (y ∷ (xs ++ ys)) i ≡ Some x) (let e : suc (length xs + k) ≡ suc (length xs) + k = omega arith in e) (get_back xs ys k x is)

  pub get_either : (xs ys : List A) (k : ℕ) (x : A) → slice_get (xs ++ ys) k ≡ Some x
      → (slice_get xs k ≡ Some x) ⊎ ((j : ℕ) × (slice_get ys j ≡ Some x) × (k ≡ length xs + j))
  get_either [] ys k x is = inr (k, is, omega arith)
  get_either (y ∷ xs) ys zero x is = inl is
  get_either (y ∷ xs) ys (suc k) x is = elim (get_either xs ys k x is) [
    | inl front ↦ inl front
    | inr back ↦ inr (back.0, back.1, (let e = back.2 in omega (arith, e)))
  ]

  pub get_last : (xs : List A) (x : A) → slice_get (xs ++ x ∷ []) (length xs) ≡ Some x
  get_last [] x = refl
  get_last (y ∷ xs) x = get_last xs x

  -- an item of a list with one more
  pub get_more : (xs : List A) (x : A) (k : ℕ) (y : A) → slice_get (xs ++ x ∷ []) k ≡ Some y → (slice_get xs k ≡ Some y) ⊎ ((x ≡ y) × (k ≡ length xs))
  get_more [] x zero y is = inr (same_Some x y is, refl)
  get_more [] x (suc k) y is = absurd (let e : None ≡ Some y = is in cc)
  get_more (z ∷ xs) x zero y is = inl is
  get_more (z ∷ xs) x (suc k) y is = elim (get_more xs x k y is) [
    | inl front ↦ inl front
    | inr last ↦ inr (last.0, ap suc last.1)
  ]

  -- what is written back into a list of as many items
  take_front : (xs zs : List A) → take (length xs) (xs ++ zs) ≡ xs
  take_front [] zs = refl
  take_front (x ∷ xs) zs = let rest = take_front xs zs in λ t. x ∷ rest t

  pub written_back : (xs zs : List A) (n : ℕ) → n ≡ length xs → take n (xs ++ zs) ≡ xs
  written_back xs zs n is = ap (λ i. take i (xs ++ zs)) is ∙ take_front xs zs
