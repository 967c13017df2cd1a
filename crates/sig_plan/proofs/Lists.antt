-- Elements of lists, and of those made from them.
use Rattle.sig_plan.proofs.Common.{◌≡◌, ◌<◌, ◌+◌, inl, inr, ℕ, List, [], ◌∷◌, subst, arith, Contains, zero, suc, Some, flat_map, slice_get, enumerate_from, range_with_len, Contains-append_left, Contains-append_right, SigId, contains_cons, contains_head, contains_later, contains_none}

pub signal_same : (x y : SigId) → x.0 ≡ y.0 → x ≡ y
signal_same x y same = λ j. record { 0 = same j }

pub in_range : (a n k : ℕ) → Contains (range_with_len a n) k → k < a + n
in_range a zero k there = absurd (contains_none k there)
in_range a (suc n) k there = elim (contains_cons a k (range_with_len (a + 1) n) there) [
  | inl same ↦ omega (arith, same)
  | inr later ↦ let lt = in_range (a + 1) n k later in omega (arith, lt)
]

pub contains_flat : {X Y : Type 0} (f : X → List Y) (xs : List X) (x : X) (y : Y) → Contains xs x → Contains (f x) y → Contains (flat_map f xs) y
contains_flat f [] x y there is = absurd (contains_none x there)
contains_flat f (z ∷ xs) x y there is = elim (contains_cons z x xs there) [
  | inl same ↦ Contains-append_left (f z) (flat_map f xs) y (subst (λ w. Contains (f w) y) same is)
  | inr later ↦ Contains-append_right (f z) (flat_map f xs) y (contains_flat f xs x y later is)
]

pub contains_numbered : {X : Type 0} (n : ℕ) (xs : List X) (k : ℕ) (x : X) → slice_get xs k ≡ Some x → Contains (enumerate_from n xs) (n + k, x)
contains_numbered n [] k x is = cc
contains_numbered n (z ∷ xs) zero x is =
    let same : z ≡ x = cc in
    let here : n ≡ n + 0 = omega arith in
    subst (λ m. Contains ((n, z) ∷ enumerate_from (n + 1) xs) (m, x)) here (subst (λ w. Contains ((n, z) ∷ enumerate_from (n + 1) xs) (n, w)) same (contains_head (n, z) (enumerate_from (n + 1) xs)))
contains_numbered n (z ∷ xs) (suc k) x is =
    let next : n + 1 + k ≡ n + suc k = omega arith in
    contains_later (n, z) (n + suc k, x) (enumerate_from (n + 1) xs) (subst (λ m. Contains (enumerate_from (n + 1) xs) (m, x)) next (contains_numbered (n + 1) xs k x is))
