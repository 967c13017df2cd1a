-- The front of a list.
use Rattle.std.proofs.Common.{List, None, Some, [], ap, append-nil, arith, drop, get_or, length, refl, slice_get, suc, sym, take, take_all, zero, ℕ, ◌++◌, ◌+◌, ◌<◌, ◌∙◌, ◌∷◌, ◌≡◌}
use Rattle.std.proofs.Math.Seq.{drop-length}
use Rattle.std.proofs.lemmas.List.{take_more}

pub taken_get : {A : Type 0} (s : ℕ) (xs : List A) (i : ℕ) (x : A) → slice_get (take s xs) i ≡ Some x → (i < s) × (slice_get xs i ≡ Some x)
taken_get {A} zero xs i x is = absurd (let e : None ≡ Some x = is in cc)
taken_get {A} (suc s) [] i x is = absurd (let e : None ≡ Some x = is in cc)
taken_get {A} (suc s) (y ∷ xs) zero x is = (omega arith, is)
taken_get {A} (suc s) (y ∷ xs) (suc i) x is = let rest = taken_get s xs i x is in (omega (arith, rest.0), rest.1)

pub get_taken : {A : Type 0} (s : ℕ) (xs : List A) (i : ℕ) (x : A) → i < s → slice_get xs i ≡ Some x → slice_get (take s xs) i ≡ Some x
get_taken {A} zero xs i x lt is = absurd (omega (arith, lt))
get_taken {A} (suc s) [] i x lt is = is
get_taken {A} (suc s) (y ∷ xs) zero x lt is = is
get_taken {A} (suc s) (y ∷ xs) (suc i) x lt is = get_taken s xs i x (omega (arith, lt)) is

-- what stands in the front of a list stands in the list
pub taken_is : {X : Type 0} (xs : List X) (n k : ℕ) (x : X) → slice_get (take n xs) k ≡ Some x → slice_get xs k ≡ Some x
taken_is [] zero k x is = is
taken_is [] (suc n) k x is = is
taken_is (y ∷ xs) zero k x is = cc
taken_is (y ∷ xs) (suc n) zero x is = is
taken_is (y ∷ xs) (suc n) (suc k) x is = taken_is xs n k x is

pub front_more : {A : Type 0} (xs : List A) (i : ℕ) (x : A) → x ≡ get_or xs i x → i < length xs → take (i + 1) xs ≡ take i xs ++ x ∷ []
front_more xs i x is h = take_more xs i x h ∙ ap (λ y. take i xs ++ y ∷ []) (sym is)

-- what is written over a list of the same length is all of it
pub written : {X : Type 0} (len : ℕ) (new items : List X) → length new ≡ length items → len ≡ length items → take len (new ++ drop (length new) items) ≡ new
written len new items same is =
    ap (λ n. take len (new ++ drop n items)) same ∙ ap (λ rest. take len (new ++ rest)) (drop-length items) ∙ ap (take len) (append-nil new) ∙ take_all len new (omega (arith, same, is))

pub no_more : {A : Type 0} (xs : List A) → length xs ≡ 0 → xs ≡ []
no_more {A} [] e = refl
no_more {A} (x ∷ xs) e = absurd (omega (arith, e))
