-- The inputs of an image: their names differ, and flows that are read for them fit.
use Rattle.sig_image_command.proofs.Common.{◌≡◌, ◌∙◌, ◌<◌, ◌≤◌, ◌+◌, ◌++◌, ◌∷◌, ℕ, zero, suc, ℤ, Bool, true, false, List, [], length, map, take, get_or, slice_get, Some, refl, sym, ap, subst, arith, bytes_eq, ◌&&◌, ◌||◌, nat_lt, AllByRecursion, AllPass, IsDistinct, list_any, lt-ltb, get_or-map, length-append, length-map, length-take-le, map-append, list_any-append, bytes_eq-Decides, Signal, inputs_of, value_is, Kernel, AreFlows, read_fit, Each, ImageView, IsImage, IsSignalBehind, names_of, ImageSignal, AreFlowsOf, input_of, inputs_of_image}

-- ---- names

false_is_true : false ≡ true → ⊥
false_is_true same = absurd cc

flip : (a b : List ℕ) → bytes_eq a b ≡ false → bytes_eq b a ≡ false
flip a b miss = by (bytes_eq b a) refl where
  by : (t : Bool) → bytes_eq b a ≡ t → bytes_eq b a ≡ false
  by true is = absurd (false_is_true (sym miss ∙ (bytes_eq-Decides a b).1 (sym ((bytes_eq-Decides b a).0 is))))
  by false is = is

neither : (s t : Bool) → s || t ≡ false → (s ≡ false) × (t ≡ false)
neither true t miss = absurd cc
neither false t miss = (refl, miss)

free_of : (t b : Bool) → t ≡ true → t && b ≡ false → b ≡ false
free_of true b is miss = miss
free_of false b is miss = absurd (false_is_true is)

-- a name that is none of those of some signals is not that of x
abbrev Has : List ImageSignal → ImageSignal → Type 0
Has before x = (name : List ℕ) → list_any (bytes_eq name) (names_of before) ≡ false → bytes_eq name x.name ≡ false

parts_of : (name : List ℕ) (before : List ImageSignal) (y : ImageSignal) → list_any (bytes_eq name) (names_of (before ++ y ∷ [])) ≡ false
    → (list_any (bytes_eq name) (names_of before) ≡ false) × (bytes_eq name y.name ≡ false)
parts_of name before y miss =
    let apart : list_any (bytes_eq name) (names_of before ++ y.name ∷ []) ≡ false = subst (λ (names : List (List ℕ)). list_any (bytes_eq name) names ≡ false) (map-append (λ (signal : ImageSignal). signal.name) before (y ∷ [])) miss in
    let parts = neither (list_any (bytes_eq name) (names_of before)) (list_any (bytes_eq name) (y.name ∷ [])) (sym (list_any-append (bytes_eq name) (names_of before) (y.name ∷ [])) ∙ apart) in
    (parts.0, (neither (bytes_eq name y.name) false parts.1).0)

names_behind : ℕ → List ImageSignal → List (List ℕ)
names_behind n xs = map (λ input. input.name) (map input_of (take n xs))

length_more : (before : List ImageSignal) (y : ImageSignal) → length (before ++ y ∷ []) ≡ length before + 1
length_more before y = length-append before (y ∷ [])

-- the name of an input before others is none of theirs
apart : (inputs n : ℕ) (x : ImageSignal) (before xs : List ImageSignal) → Each (IsSignalBehind inputs) before xs → length before + n ≤ inputs → Has before x
    → AllByRecursion (λ name. bytes_eq x.name name ≡ false) (names_behind n xs)
unfolding names_behind
apart inputs zero x before xs each within has = tt
apart inputs (suc n) x before [] each within has = tt
apart inputs (suc n) x before (y ∷ ys) each within has =
    let here : length before < inputs = omega (arith, within) in
    let free : list_any (bytes_eq y.name) (names_of before) ≡ false = free_of (nat_lt (length before) inputs) (list_any (bytes_eq y.name) (names_of before)) (lt-ltb (length before) inputs here) each.0.free in
    let count = length_more before y in
    (flip y.name x.name (has y.name free), apart inputs n x (before ++ y ∷ []) ys each.1 (omega (arith, within, count)) (λ name miss. has name (parts_of name before y miss).0))

-- the names of inputs differ
distinct : (inputs n : ℕ) (before xs : List ImageSignal) → Each (IsSignalBehind inputs) before xs → length before + n ≤ inputs → IsDistinct bytes_eq (names_behind n xs)
unfolding names_behind IsDistinct
distinct inputs zero before xs each within = tt
distinct inputs (suc n) before [] each within = tt
distinct inputs (suc n) before (x ∷ xs) each within =
    let count = length_more before x in
    let less : length (before ++ x ∷ []) + n ≤ inputs = omega (arith, within, count) in
    (apart inputs n x (before ++ x ∷ []) xs each.1 less (λ name miss. (parts_of name before x miss).1), distinct inputs n (before ++ x ∷ []) xs each.1 less)

pub inputs_differ : (image : ImageView) → IsImage image → IsDistinct bytes_eq (map (λ input. input.name) (inputs_of_image image))
unfolding names_behind
inputs_differ image right = distinct image.inputs image.inputs [] image.signals right.signals (omega arith)

pub inputs_there : (image : ImageView) → IsImage image → image.inputs ≤ length image.signals
inputs_there image right = let within = right.interface in omega (arith, within)

-- ---- flows

-- a kernel with the same inputs and nothing else
abbrev inputs_alone : ImageView → Kernel
inputs_alone image = record { signals = inputs_of_image image; equations = []; inputs = image.inputs; outputs = 0; declared = 0 }

count_is : (image : ImageView) → IsImage image → length (inputs_of_image image) ≡ image.inputs
count_is image right = length-map (take image.inputs image.signals) input_of ∙ length-take-le image.inputs image.signals (inputs_there image right)

take_whole : {A : Type 0} (n : ℕ) (xs : List A) → length xs ≡ n → take n xs ≡ xs
take_whole zero [] is = refl
take_whole zero (x ∷ xs) is = absurd (omega (arith, is))
take_whole (suc n) [] is = absurd (omega (arith, is))
take_whole (suc n) (x ∷ xs) is = let rest = take_whole n xs (omega (arith, is)) in λ j. x ∷ rest j

take_at : {A : Type 0} (n k : ℕ) (xs : List A) (x d : A) → k < n → slice_get xs k ≡ Some x → get_or (take n xs) k d ≡ x
take_at zero k xs x d less is = absurd (omega (arith, less))
take_at (suc n) k [] x d less is = absurd cc
take_at (suc n) zero (y ∷ ys) x d less is = cc
take_at (suc n) (suc k) (y ∷ ys) x d less is = take_at n k ys x d (omega (arith, less)) is

pub flows_fit : (image : ImageView) → IsImage image → (bytes : List ℕ) (flows : List (List ℤ)) → AreFlows (inputs_of_image image) bytes flows → AreFlowsOf image flows
flows_fit image right bytes flows are =
    let whole : inputs_of (inputs_alone image) ≡ inputs_of_image image = take_whole image.inputs (inputs_of_image image) (count_is image right) in
    let fit = read_fit (inputs_alone image) bytes flows (subst (λ (inputs : List Signal). AreFlows inputs bytes flows) (sym whole) are) in
    record {
      count = fit.count ∙ ap length whole ∙ count_is image right;
      kinds = λ k input less is.
          let within : k < length (inputs_of_image image) = (let count = count_is image right in omega (arith, less, count)) in
          let own : get_or (inputs_of_image image) k (input_of input) ≡ input_of input =
          get_or-map input_of (take image.inputs image.signals) k input (input_of input) (let count = length-take-le image.inputs image.signals (inputs_there image right) in omega (arith, less, count))
          ∙ ap input_of (take_at image.inputs k image.signals input input less is) in
          let named : get_or (inputs_of (inputs_alone image)) k (input_of input) ≡ input_of input = ap (λ (inputs : List Signal). get_or inputs k (input_of input)) whole ∙ own in
          let below : k < length (inputs_of (inputs_alone image)) = subst (λ (inputs : List Signal). k < length inputs) (sym whole) within in
          subst (λ (s : Signal). AllPass (value_is s.kind) (get_or flows k [])) named (fit.kinds k (input_of input) below);
    }
