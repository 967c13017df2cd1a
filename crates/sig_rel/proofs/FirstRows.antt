-- Tables of first equations, made by one walk over the equations.
use Rattle.sig_rel.proofs.Common.{◌≡◌, ◌<◌, ◌≤◌, ◌+◌, ◌&&◌, ℕ, Bool, true, false, not, List, length, map, take, take_all, get_or, replicate, get_or-replicate, length-replicate, length-range_with_len, Option, None, Some, refl, sym, ap, subst, ◌∙◌, arith, cond, position, slice_get, list_all, list_all_more, ext_get_or, range_with_len, get_or_from_slice_get, slice_get_within, length-map, Equation, Kernel, AreCounted, AreFirsts, first_or, is_unexcused, is_unexcused_by, kept_by, counted_at, counted_for, counted_if, gives, is_excused}
use Rattle.sig_rel.proofs.RuleLemmas.{map_range_got, position_place}
use Rattle.sig_rel.proofs.Searches.{IsNoneBelow, first_is, no_first, none_more}

-- what a walk has found: nothing where no equation so far was such a one, else the first of all
abbrev pub IsFirstSoFar : {X : Type 0} → (X → Bool) → List X → ℕ → Option ℕ → Type 0
IsFirstSoFar p xs k None = IsNoneBelow p xs k
IsFirstSoFar p xs k (Some n) = Some n ≡ position p xs

module _ {X : Type 0} (p : X → Bool) (xs : List X) where
  first_more : (k : ℕ) (x : X) (o : Option ℕ) → slice_get xs k ≡ Some x → IsFirstSoFar p xs k o → IsFirstSoFar p xs (k + 1) (first_or o (p x) k)
  first_more k x o at so = by o (p x) refl so where
    by : (o : Option ℕ) (b : Bool) → p x ≡ b → IsFirstSoFar p xs k o → IsFirstSoFar p xs (k + 1) (first_or o b k)
    by (Some n) b is so = so
    by None true is so = first_is p xs k x at is so
    by None false is so = none_more p xs k x at is so

  first_whole : (k : ℕ) (o : Option ℕ) → length xs ≤ k → IsFirstSoFar p xs k o → o ≡ position p xs
  first_whole k (Some n) le so = so
  first_whole k None le so = no_first p xs k le so

-- what a walk has found for each number below a count
pub record AreFirstsSoFar (is_such : ℕ → Equation → Bool) (equations : List Equation) (count k : ℕ) (firsts : List (Option ℕ)) : Type 0 where
  pub length_is : length firsts ≡ count
  pub each : (x : ℕ) → x < count → IsFirstSoFar (is_such x) equations k (get_or firsts x None)

module _ (is_such : ℕ → Equation → Bool) (equations : List Equation) (count : ℕ) where
  pub rows_none : AreFirstsSoFar is_such equations count 0 (replicate count None)
  rows_none = record {
    length_is = length-replicate count None;
    each = λ x lt. subst (IsFirstSoFar (is_such x) equations 0) (sym (get_or-replicate count x None None lt)) (λ j y below. absurd (omega (arith, below)));
  }

  pub rows_more : (k : ℕ) (x : Equation) (firsts new : List (Option ℕ)) → slice_get equations k ≡ Some x → AreFirstsSoFar is_such equations count k firsts → length new ≡ length firsts
      → ((n : ℕ) → n < length firsts → get_or new n None ≡ first_or (get_or firsts n None) (is_such n x) k) → AreFirstsSoFar is_such equations count (k + 1) new
  rows_more k x firsts new at are same noted = record {
    length_is = same ∙ are.length_is;
    each = λ n lt. subst (IsFirstSoFar (is_such n) equations (k + 1)) (sym (noted n (subst (λ m. n < m) (sym are.length_is) lt)))
        (first_more (is_such n) equations k x (get_or firsts n None) at (are.each n lt));
  }

pub rows_whole : (is_such : ℕ → Equation → Bool) (kernel : Kernel) (k : ℕ) (firsts : List (Option ℕ)) → length kernel.equations ≤ k → AreFirstsSoFar is_such kernel.equations (length kernel.signals) k firsts → AreFirsts is_such kernel firsts
rows_whole is_such kernel k firsts le are = record {
  count = are.length_is;
  each = λ x lt. first_whole (is_such x) kernel.equations k (get_or firsts x None) le (are.each x lt);
}

-- ---- those first equations that are counted

module _ (equations : List Equation) (least : List ℕ) (class : ℕ) where
  -- the first equation of a class, where so many equations are no reason against it
  abbrev left_at : ℕ → ℕ → Option Equation → Option ℕ
  left_at k n None = Some n
  left_at k n (Some first) = cond (list_all (is_excused least class first.form) (take k equations)) (Some n) None

  abbrev pub left_by : ℕ → Option ℕ → Option ℕ
  left_by k None = None
  left_by k (Some n) = left_at k n (slice_get equations n)

  left_first : (o : Option ℕ) → o ≡ left_by 0 o
  left_first None = refl
  left_first (Some n) = by (slice_get equations n) where
    by : (e : Option Equation) → Some n ≡ left_at 0 n e
    by None = refl
    by (Some first) = refl

  left_more : (k : ℕ) (x : Equation) (o first : Option ℕ) → slice_get equations k ≡ Some x → o ≡ left_by k first → kept_by equations least class x o ≡ left_by (k + 1) first
  left_more k x o None at is = ap (kept_by equations least class x) is
  left_more k x o (Some n) at is = by (slice_get equations n) refl where
    at_first : (first : Equation) → slice_get equations n ≡ Some first → (before here : Bool) → list_all (is_excused least class first.form) (take k equations) ≡ before → is_excused least class first.form x ≡ here
        → cond (is_unexcused equations least class x (cond before (Some n) None)) None (cond before (Some n) None) ≡ cond (before && here) (Some n) None
    at_first first there false here was now = refl
    at_first first there true here was now =
        ap (λ e. cond (is_unexcused_by least class x e) None (Some n)) there
        ∙ ap (λ b. cond (not b) None (Some n)) now
        ∙ turned here where
          turned : (here : Bool) → cond (not here) None (Some n) ≡ cond here (Some n) None
          turned true = refl
          turned false = refl

    by : (e : Option Equation) → slice_get equations n ≡ e → kept_by equations least class x o ≡ left_at (k + 1) n (slice_get equations n)
    by None there =
        let was : o ≡ Some n = is ∙ ap (left_at k n) there in
        ap (kept_by equations least class x) was
        ∙ ap (λ e. cond (is_unexcused_by least class x e) None (Some n)) there
        ∙ sym (ap (left_at (k + 1) n) there)
    by (Some first) there =
        let p = is_excused least class first.form in
        let was : o ≡ cond (list_all p (take k equations)) (Some n) None = is ∙ ap (left_at k n) there in
        let more : list_all p (take (k + 1) equations) ≡ (list_all p (take k equations) && p x) =
        list_all_more p equations k x (slice_get_within equations k x at) ∙ ap (λ y. list_all p (take k equations) && p y) (get_or_from_slice_get equations k x x at) in
        ap (kept_by equations least class x) was
        ∙ at_first first there (list_all p (take k equations)) (p x) refl refl
        ∙ ap (λ b. cond b (Some n) None) (sym more)
        ∙ sym (ap (left_at (k + 1) n) there)

-- behind all equations, the counted one is left
left_whole : (kernel : Kernel) (least : List ℕ) (class k : ℕ) → length kernel.equations ≤ k → left_by kernel.equations least class k (position (gives least class) kernel.equations) ≡ counted_for kernel least class
left_whole kernel least class k le = by (position (gives least class) kernel.equations) refl where
  by : (o : Option ℕ) → position (gives least class) kernel.equations ≡ o → left_by kernel.equations least class k o ≡ counted_if kernel least class o
  by None is = refl
  by (Some n) is =
      let place = position_place (gives least class) kernel.equations n is in
      ap (left_at kernel.equations least class k n) place.1
      ∙ ap (λ xs. cond (list_all (is_excused least class place.0.form) xs) (Some n) None) (take_all k kernel.equations le)
      ∙ sym (ap (counted_at kernel least class n) place.1)

-- what is left of the first equations
pub record AreLeftSoFar (equations : List Equation) (least : List ℕ) (count k : ℕ) (rows : List (Option ℕ)) : Type 0 where
  pub length_is : length rows ≡ count
  pub each : (class : ℕ) → class < count → get_or rows class None ≡ left_by equations least class k (position (gives least class) equations)

pub left_rows : (kernel : Kernel) (least : List ℕ) (firsts : List (Option ℕ)) → AreFirsts (gives least) kernel firsts → AreLeftSoFar kernel.equations least (length kernel.signals) 0 firsts
left_rows kernel least firsts are = record {
  length_is = are.count;
  each = λ class lt. are.each class lt ∙ left_first kernel.equations least class (position (gives least class) kernel.equations);
}

pub left_rows_more : (equations : List Equation) (least : List ℕ) (count k : ℕ) (x : Equation) (rows new : List (Option ℕ)) → slice_get equations k ≡ Some x → AreLeftSoFar equations least count k rows → length new ≡ length rows
    → ((class : ℕ) → class < length rows → get_or new class None ≡ kept_by equations least class x (get_or rows class None)) → AreLeftSoFar equations least count (k + 1) new
left_rows_more equations least count k x rows new at are same kept = record {
  length_is = same ∙ are.length_is;
  each = λ class lt. kept class (subst (λ m. class < m) (sym are.length_is) lt) ∙ left_more equations least class k x (get_or rows class None) (position (gives least class) equations) at (are.each class lt);
}

pub counted_rows : (kernel : Kernel) (least : List ℕ) (k : ℕ) (rows : List (Option ℕ)) → length kernel.equations ≤ k → AreLeftSoFar kernel.equations least (length kernel.signals) k rows → AreCounted kernel least rows
counted_rows kernel least k rows le are =
    let n = length kernel.signals in
    let f = counted_for kernel least in
    ext_get_or None rows (map f (range_with_len 0 n)) (are.length_is ∙ sym (length-map (range_with_len 0 n) f ∙ length-range_with_len 0 n))
    (λ class lt.
    let below : class < n = subst (λ m. class < m) are.length_is lt in
    are.each class below ∙ left_whole kernel least class k le
    ∙ sym (get_or_from_slice_get (map f (range_with_len 0 n)) class (f class) None (map_range_got f n class below)))
