-- What loops over a list have found so far.
use Rattle.sig_rel.proofs.Common.{◌≡◌, ◌<◌, ◌≤◌, ◌+◌, ◌++◌, [], ◌∷◌, inl, inr, ℕ, Bool, true, false, List, length, map, take, get_or, Option, None, Some, refl, sym, ap, ◌∙◌, arith, ◌&&◌, ◌||◌, not, position, slice_get, list_all, list_any, cases_eq, cases_lt, false≢true, map_push, take_more, position-Some, get_or_from_slice_get, slice_get-get_or, slice_get_within, Equation, allows_top, gives, governs, has_operand_of}
use Rattle.sig_rel.proofs.OnceDefined.{any_place}
use Rattle.sig_rel.proofs.RuleLemmas.{all_at, all_from, position_found, position_place}

-- each of the first elements is not such
abbrev pub IsNoneBelow : {X : Type 0} → (X → Bool) → List X → ℕ → Type 0
IsNoneBelow {X} p xs k = (j : ℕ) (x : X) → j < k → slice_get xs j ≡ Some x → p x ≡ false

module _ {X : Type 0} (p : X → Bool) (xs : List X) where
  pub none_more : (k : ℕ) (x : X) → slice_get xs k ≡ Some x → p x ≡ false → IsNoneBelow p xs k → IsNoneBelow p xs (k + 1)
  none_more k x at here none j y lt there = elim (cases_eq j k) [
    | inl same ↦
        let both : Some x ≡ Some y = sym at ∙ ap (slice_get xs) (sym same) ∙ there in
        let e : x ≡ y = cc in
        ap p (sym e) ∙ here
    | inr apart ↦ none j y (omega (arith, lt, apart)) there
  ]

  -- the first that is such
  pub first_is : (k : ℕ) (x : X) → slice_get xs k ≡ Some x → p x ≡ true → IsNoneBelow p xs k → Some k ≡ position p xs
  first_is k x at here none =
      let found = position_found p xs k x at here in
      let m = found.0 in
      let place = position-Some p xs m x found.1 in
      elim (cases_lt m k) [
        | inl before ↦ absurd (false≢true (sym (none m (get_or xs m x) before (slice_get-get_or xs m x place.0)) ∙ place.1))
        | inr le ↦ elim (cases_lt k m) [
          | inl after ↦ absurd (false≢true (sym (place.2 k after) ∙ ap p (get_or_from_slice_get xs k x x at) ∙ here))
          | inr ge ↦ let same : k ≡ m = omega (arith, le, ge) in ap Some same ∙ sym found.1
        ]
      ]

  pub no_first : (k : ℕ) → length xs ≤ k → IsNoneBelow p xs k → None ≡ position p xs
  no_first k le none = by (position p xs) refl where
    by : (o : Option ℕ) → position p xs ≡ o → None ≡ position p xs
    by None e = sym e
    by (Some m) e =
        let place = position_place p xs m e in
        let lt = slice_get_within xs m place.0 place.1 in
        absurd (false≢true (sym (none m place.0 (omega (arith, lt, le)) place.1) ∙ place.2))

  pub none_any : (k : ℕ) → length xs ≤ k → IsNoneBelow p xs k → false ≡ list_any p xs
  none_any k le none = by (list_any p xs) refl where
    by : (b : Bool) → list_any p xs ≡ b → false ≡ list_any p xs
    by false e = sym e
    by true e =
        let place = any_place p xs e in
        let lt = slice_get_within xs place.0 place.1.0 place.1.1 in
        absurd (false≢true (sym (none place.0 place.1.0 (omega (arith, lt, le)) place.1.1) ∙ place.1.2))

  -- one that fails
  pub one_fails : (k : ℕ) (x : X) → slice_get xs k ≡ Some x → p x ≡ false → false ≡ list_all p xs
  one_fails k x at here = by (list_all p xs) refl where
    by : (b : Bool) → list_all p xs ≡ b → false ≡ list_all p xs
    by false e = sym e
    by true e = absurd (false≢true (sym here ∙ all_at p xs k x e at))

-- ---- the top: no equation gives it its presence

unless_given : (g h : Bool) → (g && not h) ≡ false → (not g || h) ≡ true
unless_given true false e = sym e
unless_given _ _ e = refl

where_given : (g h : Bool) → (g && not h) ≡ true → (not g || h) ≡ false
where_given true false e = refl
where_given _ _ e = sym e

module _ (equations : List Equation) (least : List ℕ) (class : ℕ) where
  pub given_allows : (number : ℕ) → position (gives least class) equations ≡ Some number → false ≡ list_all (allows_top least class) equations
  given_allows number e =
      let place = position_place (gives least class) equations number e in
      one_fails (allows_top least class) equations number place.0 place.1 (where_given (governs least class place.0.form) (has_operand_of least class place.0.form) place.2)

  pub none_allows : position (gives least class) equations ≡ None → true ≡ list_all (allows_top least class) equations
  none_allows e = sym (all_from (allows_top least class) equations (λ k equation at. by k equation at (gives least class equation) refl)) where
    by : (k : ℕ) (equation : Equation) → slice_get equations k ≡ Some equation → (b : Bool) → gives least class equation ≡ b → allows_top least class equation ≡ true
    by k equation at false is = unless_given (governs least class equation.form) (has_operand_of least class equation.form) is
    by k equation at true is =
        let found = position_found (gives least class) equations k equation at is in
        absurd (let both : None ≡ Some found.0 = sym e ∙ found.1 in cc)

-- ---- one more element was mapped

pub mapped_more : {X Y : Type 0} (f : X → Y) (xs : List X) (k : ℕ) (d : X) (ys next : List Y) (y : Y) → k < length xs → ys ≡ map f (take k xs) → y ≡ f (get_or xs k d) → next ≡ ys ++ y ∷ [] → next ≡ map f (take (k + 1) xs)
mapped_more f xs k d ys next y lt so_far here is = is ∙ (λ j. so_far j ++ here j ∷ []) ∙ sym (map_push f (take k xs) (get_or xs k d)) ∙ sym (ap (map f) (take_more xs k d lt))
