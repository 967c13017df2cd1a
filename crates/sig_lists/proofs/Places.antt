-- What stands at a place of a list.
use Rattle.std.proofs.Common.{List, Some, [], ap, arith, get_or, length, map, refl, replicate, slice_get, slice_index_or, suc, sym, zero, ℕ, ◌<◌, ◌∙◌, ◌∷◌, ◌≡◌}
use Rattle.std.proofs.lemmas.List.{get_or_default, get_or_read}
use Rattle.std.proofs.lemmas.Option.{slice_get-get_or, slice_get_within}

pub some_at : {A : Type 0} (xs : List A) (k : ℕ) → k < length xs → (x : A) × (slice_get xs k ≡ Some x)
some_at {A} [] k lt = absurd (omega (arith, lt))
some_at {A} (x ∷ xs) zero lt = (x, refl)
some_at {A} (x ∷ xs) (suc k) lt = some_at xs k (omega (arith, lt))

pub got : {A : Type 0} (xs : List A) (k : ℕ) (d x : A) → slice_get xs k ≡ Some x → (k < length xs) × (get_or xs k d ≡ x)
got {A} [] k d x is = absurd (let e = is in cc)
got {A} (y ∷ xs) zero d x is = (omega arith, cc)
got {A} (y ∷ xs) (suc k) d x is = let rest = got xs k d x is in (omega (arith, rest.0), rest.1)

pub get_map : {X Y : Type 0} (f : X → Y) (xs : List X) (k : ℕ) (x : X) → slice_get xs k ≡ Some x → slice_get (map f xs) k ≡ Some (f x)
get_map f [] k x is = cc
get_map f (y ∷ xs) zero x is = let same : y ≡ x = cc in ap (λ z. Some (f z)) same
get_map f (y ∷ xs) (suc k) x is = get_map f xs k x is

pub map_get : {X Y : Type 0} (f : X → Y) (xs : List X) (k : ℕ) (y : Y) → slice_get (map f xs) k ≡ Some y → (x : X) × (slice_get xs k ≡ Some x) × (f x ≡ y)
map_get f [] k y is = cc
map_get f (x ∷ xs) zero y is = (x, refl, cc)
map_get f (x ∷ xs) (suc k) y is = map_get f xs k y is

-- an element that was read
pub read_is : {X : Type 0} (xs : List X) (k : ℕ) (x : X) → k < length xs → x ≡ get_or xs k x → slice_get xs k ≡ Some x
read_is xs k x lt is = slice_get-get_or xs k x lt ∙ ap Some (sym is)

-- an element that was read, whatever would stand past the end
pub item_at : {X : Type 0} (own items : List X) (n : ℕ) (x : X) → own ≡ items → n < length own → x ≡ get_or own n x → (d : X) → get_or items n d ≡ x
item_at own items n x same within is d = sym (is ∙ get_or_default own n x d within ∙ ap (λ xs. get_or xs n d) same)

-- what is read at a place of a list, seen through a function
pub read_mapped : {A B : Type 0} (f : A → B) (xs : List A) (i : ℕ) (x : A) → i < length xs → x ≡ get_or xs i x → f x ≡ get_or (map f xs) i (f x)
read_mapped f [] i x h e = absurd (omega arith)
read_mapped f (y ∷ ys) zero x h e = ap f e
read_mapped f (y ∷ ys) (suc i) x h e = read_mapped f ys i x (omega arith) e

pub read_or_empty : (xs : List (List ℕ)) (i : ℕ) (x : List ℕ) → i < length xs → x ≡ get_or xs i x → x ≡ get_or xs i []
read_or_empty xs i x lt is = get_or_read xs i x lt is []

pub value_there : {X : Type 0} (xs : List X) (k : ℕ) (d x : X) → slice_get xs k ≡ Some x → slice_index_or xs k d ≡ x
value_there xs k d x is = let e : Some (slice_index_or xs k d) ≡ Some x = sym (slice_get-get_or xs k d (slice_get_within xs k x is)) ∙ is in cc

pub repeated : {A : Type 0} (n k : ℕ) (a x : A) → slice_get (replicate n a) k ≡ Some x → (k < n) × (x ≡ a)
repeated {A} zero k a x is = absurd (let e = is in cc)
repeated {A} (suc n) zero a x is = (omega arith, let e : Some a ≡ Some x = is in cc)
repeated {A} (suc n) (suc k) a x is = let rest = repeated n k a x is in (omega (arith, rest.0), rest.1)
