-- The signals of a plan's image: their names and kinds.
use Rattle.sig_file.proofs.Common.{◌≡◌, ℕ, zero, suc, ◌<◌, Bool, true, false, List, [], ◌∷◌, ◌++◌, length, map, take, slice_get, Option, Some, None, refl, sym, ap, subst, ◌∙◌, arith, append-nil, append_assoc, list_any, bytes_eq, bytes_eq-Decides, slice_get-map, option_map, AllByRecursion, ltb, ltb-true, length-take, ◌&&◌, Contains, IsDistinct-head, IsDistinct-tail, IsDistinct, Signal, kind_of, Each, IsSignalBehind, kind_at, kind_in, names_of, image_signal, HasName, ImageSignal, or_from, contains_at, slice_get_within}

-- each is right behind those before it, if it is so at each place
pub each_from : {A : Type 0} (right : List A → A → Type 0) (before xs : List A) → ((n : ℕ) (x : A) → slice_get xs n ≡ Some x → right (before ++ take n xs) x) → Each right before xs
each_from right before [] f = tt
each_from right before (x ∷ xs) f = (
  subst (λ (l : List _). right l x) (append-nil before) (f 0 x refl),
  each_from right (before ++ x ∷ []) xs (λ n y e. subst (λ (l : List _). right l y) (sym (append_assoc before (x ∷ []) (take n xs))) (f (suc n) y e)),
)

kind_by : (o : Option Signal) → kind_in (option_map image_signal o) ≡ kind_of o
kind_by None = refl
kind_by (Some signal) = refl

-- the kinds of the image's signals are those of the kernel's
pub kind_image : (signals : List Signal) (x : ℕ) → kind_at (map image_signal signals) x ≡ kind_of (slice_get signals x)
kind_image signals x = ap kind_in (slice_get-map image_signal signals x) ∙ kind_by (slice_get signals x)

-- ---- names

other_way : (a b : List ℕ) (one : Bool) → bytes_eq b a ≡ one → bytes_eq a b ≡ false → one ≡ false
other_way a b false e none = refl
other_way a b true e none = let same : b ≡ a = (bytes_eq-Decides b a).0 e in let again : bytes_eq a b ≡ true = (bytes_eq-Decides a b).1 (sym same) in absurd cc

name_at : (P : List ℕ → Type 0) (signals : List Signal) (i m : ℕ) (x : Signal) → AllByRecursion P (map (λ (s : Signal). s.name) (take i signals)) → m < i → slice_get signals m ≡ Some x → P x.name
name_at P [] i m x all lt e = absurd cc
name_at P (s ∷ signals) zero m x all lt e = absurd (omega (arith, lt))
name_at P (s ∷ signals) (suc i) zero x all lt e = let same : s ≡ x = cc in subst (λ (y : Signal). P y.name) same all.0
name_at P (s ∷ signals) (suc i) (suc m) x all lt e = name_at P signals i m x all.1 (omega (arith, lt)) e

-- no input before another one has its name
free_name : (inputs : ℕ) (signals : List Signal) (n : ℕ) (x : Signal) → IsDistinct bytes_eq (map (λ (s : Signal). s.name) (take inputs signals)) → n < inputs → slice_get signals n ≡ Some x
    → list_any (bytes_eq x.name) (names_of (take n (map image_signal signals))) ≡ false
free_name inputs [] n x distinct lt e = absurd cc
free_name zero (s ∷ signals) n x distinct lt e = absurd (omega (arith, lt))
free_name (suc i) (s ∷ signals) zero x distinct lt e = refl
free_name (suc i) (s ∷ signals) (suc m) x distinct lt e =
    let less : m < i = omega (arith, lt) in
    let head = IsDistinct-head bytes_eq s.name (map (λ (t : Signal). t.name) (take i signals)) distinct in
    or_from (bytes_eq x.name s.name) (list_any (bytes_eq x.name) (names_of (take m (map image_signal signals))))
    (other_way s.name x.name (bytes_eq x.name s.name) refl (name_at (λ name. bytes_eq s.name name ≡ false) signals i m x head less e))
    (free_name i signals m x (IsDistinct-tail bytes_eq s.name (map (λ (t : Signal). t.name) (take i signals)) distinct) less e)

taken_by : (b any : Bool) → (b ≡ true → any ≡ false) → (b && any) ≡ false
taken_by false any f = refl
taken_by true any f = f refl

from_map : (signals : List Signal) (n : ℕ) (signal : ImageSignal) → slice_get (map image_signal signals) n ≡ Some signal → (x : Signal) × (slice_get signals n ≡ Some x) × (image_signal x ≡ signal)
from_map [] n signal e = absurd cc
from_map (s ∷ signals) zero signal e = (s, refl, cc)
from_map (s ∷ signals) (suc n) signal e = from_map signals n signal e

pub length-image : (signals : List Signal) → length (map image_signal signals) ≡ length signals
length-image [] = refl
length-image (s ∷ signals) = ap suc (length-image signals)

signal_right : (inputs : ℕ) (signals : List Signal) → IsDistinct bytes_eq (map (λ (s : Signal). s.name) (take inputs signals)) → ((signal : Signal) → Contains signals signal → HasName signal)
    → (n : ℕ) (x : Signal) → slice_get signals n ≡ Some x → IsSignalBehind inputs (take n (map image_signal signals)) (image_signal x)
signal_right inputs signals distinct names n x e =
    let named = names x (contains_at signals n x e) in
    let within = slice_get_within signals n x e in
    let long : length (take n (map image_signal signals)) ≡ n = omega (arith, within, length-take n (map image_signal signals), length-image signals) in
    record {
      long = named.long;
      printable = named.printable;
      free = taken_by (ltb (length (take n (map image_signal signals))) inputs) (list_any (bytes_eq x.name) (names_of (take n (map image_signal signals))))
          (λ lt. (let less = ltb-true (length (take n (map image_signal signals))) inputs lt in free_name inputs signals n x distinct (omega (arith, less, long)) e));
    }

pub signals_right : (inputs : ℕ) (signals : List Signal) → IsDistinct bytes_eq (map (λ (s : Signal). s.name) (take inputs signals)) → ((signal : Signal) → Contains signals signal → HasName signal)
    → Each (IsSignalBehind inputs) [] (map image_signal signals)
signals_right inputs signals distinct names = each_from (IsSignalBehind inputs) [] (map image_signal signals)
    (λ n signal e. (let found = from_map signals n signal e in
    subst (IsSignalBehind inputs (take n (map image_signal signals))) found.2 (signal_right inputs signals distinct names n found.0 found.1)))
