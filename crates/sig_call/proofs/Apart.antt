-- Texts that differ from one another, and texts that are cut at the first of a byte.
use Rattle.sig_call.proofs.Common.{◌≡◌, ◌≢◌, ◌++◌, ℕ, List, [], ◌∷◌, false, map, refl, append_cancel_left, bytes_eq-Decides, AllByRecursion, IsDistinct, bytes_eq, all_both, all_so, false_from_ne_true}

-- texts behind a prefix
abbrev pub prefixed : List ℕ → List (List ℕ) → List (List ℕ)
prefixed prefix xs = map (λ x. prefix ++ x) xs

pub all_prefixed : (P : List ℕ → Type 0) (prefix : List ℕ) (xs : List (List ℕ)) → AllByRecursion (λ x. P (prefix ++ x)) xs → AllByRecursion P (prefixed prefix xs)
all_prefixed P prefix [] h = tt
all_prefixed P prefix (x ∷ xs) h = (h.0, all_prefixed P prefix xs h.1)

pub all_texts : (P : List ℕ → Type 0) → ((x : List ℕ) → P x) → (xs : List (List ℕ)) → AllByRecursion P xs
all_texts P each [] = tt
all_texts P each (x ∷ xs) = (each x, all_texts P each xs)

-- no two of the texts are the same
abbrev pub Apart : List (List ℕ) → Type 0
Apart [] = Unit {0}
Apart (x ∷ xs) = AllByRecursion (λ y. x ≢ y) xs × Apart xs

pub distinct : (xs : List (List ℕ)) → Apart xs → IsDistinct bytes_eq xs
unfolding IsDistinct
distinct [] h = tt
distinct (x ∷ xs) h = (
  all_so (λ y. x ≢ y) (λ y. bytes_eq x y ≡ false) (λ y other. false_from_ne_true (bytes_eq x y) (λ same. other ((bytes_eq-Decides x y).0 same))) xs h.0,
  distinct xs h.1,
)

pub apart_both : (xs ys : List (List ℕ)) → Apart xs → Apart ys → AllByRecursion (λ x. AllByRecursion (λ y. x ≢ y) ys) xs → Apart (xs ++ ys)
apart_both [] ys h k across = k
apart_both (x ∷ xs) ys h k across = (all_both (λ y. x ≢ y) xs ys h.0 across.0, apart_both xs ys h.1 k across.1)

pub apart_right : (xs ys : List (List ℕ)) → Apart (xs ++ ys) → Apart ys
apart_right [] ys h = h
apart_right (x ∷ xs) ys h = apart_right xs ys h.1

pub apart_prefixed : (prefix : List ℕ) (xs : List (List ℕ)) → Apart xs → Apart (prefixed prefix xs)
apart_prefixed prefix [] h = tt
apart_prefixed prefix (x ∷ xs) h = (
  all_prefixed (λ y. prefix ++ x ≢ y) prefix xs (all_so (λ y. x ≢ y) (λ y. prefix ++ x ≢ prefix ++ y) (λ y other same. other (append_cancel_left prefix x y same)) xs h.0),
  apart_prefixed prefix xs h.1,
)

-- bytes without one byte
abbrev pub Lacks : ℕ → List ℕ → Type 0
Lacks b bytes = AllByRecursion (λ c. c ≢ b) bytes

-- what stands in front of the first of a byte, and what stands behind it
pub cut : (b : ℕ) (front other_front back other_back : List ℕ) → Lacks b front → Lacks b other_front → front ++ b ∷ back ≡ other_front ++ b ∷ other_back → (front ≡ other_front) × (back ≡ other_back)
cut b [] [] back other_back h k same = (refl, cc)
cut b [] (y ∷ ys) back other_back h k same = absurd (k.0 cc)
cut b (x ∷ xs) [] back other_back h k same = absurd (h.0 cc)
cut b (x ∷ xs) (y ∷ ys) back other_back h k same =
    let rest : (xs ≡ ys) × (back ≡ other_back) = cut b xs ys back other_back h.1 k.1 cc in
    let head : x ≡ y = cc in
    let tail : xs ≡ ys = rest.0 in
    (cc, rest.1)

pub lacks_none : (b : ℕ) (bytes front back : List ℕ) → Lacks b bytes → bytes ≡ front ++ b ∷ back → ⊥
lacks_none b [] [] back h same = absurd cc
lacks_none b [] (y ∷ ys) back h same = absurd cc
lacks_none b (x ∷ xs) [] back h same = h.0 cc
lacks_none b (x ∷ xs) (y ∷ ys) back h same = lacks_none b xs ys back h.1 cc
