-- Counting: elements that pass a test, and numbers below others.
use Rattle.sig_call.proofs.Common.{◌≡◌, ◌≢◌, ◌+◌, ◌-◌, ◌<◌, ◌++◌, ◌∙◌, ℕ, zero, suc, Bool, true, false, cond, List, [], ◌∷◌, map, length, get_or, count_by, Contains, refl, sym, ap, subst, arith, sum_by-append, sum_by-cons, bytes_eq-Decides, AllByRecursion, bytes_eq, all_so, holds_at}
use Rattle.sig_call.proofs.Apart.{Apart}

-- one where a number is below another, or else none
abbrev pub below : ℕ → ℕ → ℕ
below bound n = 1 - (suc n - bound)

-- one where a test is passed
abbrev pub tally : Bool → ℕ
tally b = cond b 1 0

-- lists and counts
pub count_append : {A : Type 0} (p : A → Bool) (xs ys : List A) → count_by p (xs ++ ys) ≡ count_by p xs + count_by p ys
count_append p xs ys = sum_by-append (λ x. cond (p x) 1 0) xs ys

pub count_cons : {A : Type 0} (p : A → Bool) (x : A) (xs : List A) → count_by p (x ∷ xs) ≡ tally (p x) + count_by p xs
count_cons p x xs = sum_by-cons (λ y. cond (p y) 1 0) x xs

pub count_same : {A : Type 0} (p q : A → Bool) (xs : List A) → AllByRecursion (λ x. p x ≡ q x) xs → count_by p xs ≡ count_by q xs
count_same p q [] h = refl
count_same p q (x ∷ xs) h =
    let here : tally (p x) ≡ tally (q x) = ap tally h.0 in
    let rest : count_by p xs ≡ count_by q xs = count_same p q xs h.1 in
    let first = count_cons p x xs in
    let second = count_cons q x xs in
    omega arith

pub count_none : {A : Type 0} (p : A → Bool) (xs : List A) → AllByRecursion (λ x. p x ≡ false) xs → count_by p xs ≡ 0
count_none p [] h = refl
count_none p (x ∷ xs) h =
    let here : tally (p x) ≡ 0 = ap tally h.0 in
    let rest : count_by p xs ≡ 0 = count_none p xs h.1 in
    let first = count_cons p x xs in
    omega arith

pub count_map : {A B : Type 0} (p : B → Bool) (f : A → B) (xs : List A) → count_by p (map f xs) ≡ count_by (λ x. p (f x)) xs
count_map p f [] = refl
count_map p f (x ∷ xs) =
    let rest : count_by p (map f xs) ≡ count_by (λ y. p (f y)) xs = count_map p f xs in
    let first = count_cons p (f x) (map f xs) in
    let second = count_cons (λ y. p (f y)) x xs in
    omega arith

-- a text that stands among texts that differ is counted once
pub not_it : (u t : List ℕ) → t ≢ u → bytes_eq t u ≡ false
not_it u t other = no (bytes_eq t u) refl where
  no : (b : Bool) → bytes_eq t u ≡ b → b ≡ false
  no true is = absurd (other ((bytes_eq-Decides t u).0 is))
  no false is = refl

once_at : (xs : List (List ℕ)) (u : List ℕ) (k : ℕ) → Apart xs → k < length xs → get_or xs k u ≡ u → count_by (λ t. bytes_eq t u) xs ≡ 1
once_at [] u k apart h is = let no : k < 0 = h in absurd (omega arith)
once_at (x ∷ xs) u zero apart h is =
    let here : tally (bytes_eq x u) ≡ 1 = ap tally ((bytes_eq-Decides x u).1 is) in
    let rest : count_by (λ t. bytes_eq t u) xs ≡ 0 =
    count_none (λ t. bytes_eq t u) xs (all_so (λ t. x ≢ t) (λ t. bytes_eq t u ≡ false) (λ t other. not_it u t (λ same. other (is ∙ sym same))) xs apart.0) in
    let first = count_cons (λ t. bytes_eq t u) x xs in
    omega arith
once_at (x ∷ xs) u (suc k) apart h is =
    let within : k < length xs = (let n : suc k < suc (length xs) = h in omega arith) in
    let other : x ≢ u = subst (λ t. x ≢ t) is (holds_at (λ t. x ≢ t) xs k u apart.0 within) in
    let here : tally (bytes_eq x u) ≡ 0 = ap tally (not_it u x other) in
    let rest : count_by (λ t. bytes_eq t u) xs ≡ 1 = once_at xs u k apart.1 within is in
    let first = count_cons (λ t. bytes_eq t u) x xs in
    omega arith

pub once : (xs : List (List ℕ)) (u : List ℕ) → Apart xs → Contains xs u → count_by (λ t. bytes_eq t u) xs ≡ 1
once xs u apart here = once_at xs u here.0 apart here.1 here.2
