-- Lists of numbers of which some are given: what stands at a place, and how many are given.
use Rattle.sig_rel.proofs.Common.{◌≡◌, ◌<◌, ◌≤◌, ◌+◌, ◌⊎◌, inl, inr, ℕ, suc, zero, Bool, true, List, [], ◌∷◌, length, get_or, set, cond, Option, None, Some, refl, ap, subst, arith, is_some, slice_get, count_by, range_with_len, sum_by-cons, sum_by-set}

-- what stands in a list after a number is set
pub got_set : (numbers : List (Option ℕ)) (k j w v : ℕ) → slice_get (set numbers k (Some w)) j ≡ Some (Some v) → ((j ≡ k) × (v ≡ w)) ⊎ (slice_get numbers j ≡ Some (Some v))
got_set (x ∷ numbers) zero zero w v is = inl (refl, cc)
got_set (x ∷ numbers) (suc k) (suc j) w v is = elim (got_set numbers k j w v is) [ inl p ↦ inl (ap suc p.0, p.1) | inr there ↦ inr there ]
got_set _ _ _ w v is = inr is

-- an older number stays where one is set at a place without one
pub kept_set : (numbers : List (Option ℕ)) (k j w v : ℕ) → get_or numbers k None ≡ None → slice_get numbers j ≡ Some (Some v) → slice_get (set numbers k (Some w)) j ≡ Some (Some v)
kept_set (x ∷ numbers) zero zero w v none is = let no : Some x ≡ Some (Some v) = is in let isnt : x ≡ None = none in cc
kept_set (x ∷ numbers) (suc k) (suc j) w v none is = kept_set numbers k j w v none is
kept_set _ _ _ w v none is = is

pub set_there : (numbers : List (Option ℕ)) (k w : ℕ) → k < length numbers → slice_get (set numbers k (Some w)) k ≡ Some (Some w)
set_there [] k w lt = absurd (omega (arith, lt))
set_there (x ∷ numbers) zero w lt = refl
set_there (x ∷ numbers) (suc k) w lt = set_there numbers k w (omega (arith, lt))

pub found_there : (numbers : List (Option ℕ)) (k v : ℕ) → k < length numbers → get_or numbers k None ≡ Some v → slice_get numbers k ≡ Some (Some v)
found_there [] k v lt is = absurd (omega (arith, lt))
found_there (x ∷ numbers) zero v lt is = ap Some is
found_there (x ∷ numbers) (suc k) v lt is = found_there numbers k v (omega (arith, lt)) is

abbrev one_if : Option ℕ → ℕ
one_if x = cond (is_some x) 1 0

abbrev one_where : Bool → ℕ
one_where b = cond b 1 0

-- one more is given
pub count_set : (numbers : List (Option ℕ)) (k w : ℕ) → k < length numbers → get_or numbers k None ≡ None → count_by is_some (set numbers k (Some w)) ≡ count_by is_some numbers + 1
count_set numbers k w lt none =
    let e = sum_by-set one_if numbers k (Some w) None lt in
    let z = ap one_if none in
    omega (arith, e, z)

given_here : (x : Option ℕ) (b : Bool) (m n : ℕ) → ((v : ℕ) → x ≡ Some v → b ≡ true) → m ≤ n → one_if x + m ≤ one_where b + n
given_here None b m n only le = omega (arith, le)
given_here (Some v) b m n only le = rw (only v refl) (omega (arith, le))

-- as many as places that pass a test, where a number is given only at these
pub count_given : (test : ℕ → Bool) (numbers : List (Option ℕ)) (a n : ℕ) → length numbers ≡ n → ((k v : ℕ) → slice_get numbers k ≡ Some (Some v) → test (a + k) ≡ true)
    → count_by is_some numbers ≤ count_by test (range_with_len a n)
count_given test [] a n count only = omega arith
count_given test (x ∷ numbers) a zero count only = absurd (omega (arith, count))
count_given test (x ∷ numbers) a (suc n) count only =
    let rest = count_given test numbers (a + 1) n (omega (arith, count)) (λ k v is. let e : a + suc k ≡ a + 1 + k = omega arith in subst (λ m. test m ≡ true) e (only (suc k) v is)) in
    let left = sum_by-cons one_if x numbers in
    let right = sum_by-cons (λ m. one_where (test m)) a (range_with_len (a + 1) n) in
    let here = given_here x (test a) (count_by is_some numbers) (count_by test (range_with_len (a + 1) n))
    (λ v is. let e : a + 0 ≡ a = omega arith in subst (λ m. test m ≡ true) e (only 0 v (ap Some is))) rest in
    omega (arith, left, right, here)
