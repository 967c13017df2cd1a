-- Lemmas on the first place of a text.
use Rattle.sig_scope.proofs.Common.{◌≡◌, ◌++◌, ◌<◌, ℕ, suc, zero, List, [], ◌∷◌, refl, ap, sym, ◌∙◌, inl, inr, ◌⊎◌, Bool, true, false, cond, IsTrue, Option, None, Some, option_map, map, length, get_or, ◌↔◌, arith, is_some, Contains, find, bytes_eq, bytes_eq-Decides, place_of, contains_later, contains_none}

is_some_suc : (o : Option ℕ) → is_some (option_map suc o) ≡ is_some o
is_some_suc None = refl
is_some_suc (Some n) = refl

contains_at : (x : List ℕ) (xs : List (List ℕ)) (t : List ℕ) (k : ℕ) → k < length (x ∷ xs) → get_or (x ∷ xs) k t ≡ t → (x ≡ t) ⊎ Contains xs t
contains_at x xs t zero h e = inl e
contains_at x xs t (suc k) h e = inr (k, omega arith, e)

found_step : (x : List ℕ) (xs : List (List ℕ)) (t : List ℕ) (b : Bool) → bytes_eq x t ≡ b → (IsTrue (is_some (place_of xs t)) ↔ Contains xs t)
    → IsTrue (is_some (cond b (Some 0) (option_map suc (place_of xs t)))) ↔ Contains (x ∷ xs) t
found_step x xs t true e rec = (λ _. (0, omega arith, (bytes_eq-Decides x t).0 e), λ _. refl)
found_step x xs t false e rec = (
  λ h. contains_later x t xs (rec.0 (sym (is_some_suc (place_of xs t)) ∙ h)),
  λ c. is_some_suc (place_of xs t) ∙ rec.1 (elim (contains_at x xs t c.0 c.1 c.2) [ inl s ↦ (let d : bytes_eq x t ≡ true = (bytes_eq-Decides x t).1 s in absurd cc) | inr r ↦ r ]),
)

-- a text has a place exactly where it is among the texts
pub place_found : (xs : List (List ℕ)) (t : List ℕ) → IsTrue (is_some (place_of xs t)) ↔ Contains xs t
place_found [] t = (λ h. absurd cc, λ c. absurd (contains_none t c))
place_found (x ∷ xs) t = found_step x xs t (bytes_eq x t) refl (place_found xs t)

find_step : {A : Type 0} (b : Bool) (o : Option ℕ) (x : A) (xs : List A) (r : Option A) (i : ℕ) (d : A)
    → ((j : ℕ) → o ≡ Some j → (j < length xs) × (r ≡ Some (get_or xs j d)))
    → cond b (Some 0) (option_map suc o) ≡ Some i → (i < length (x ∷ xs)) × (cond b (Some x) r ≡ Some (get_or (x ∷ xs) i d))
find_step true o x xs r zero d rec e = (omega arith, refl)
find_step true o x xs r (suc i) d rec e = let z : 0 ≡ suc i = cc in absurd (omega arith)
find_step false None x xs r i d rec e = absurd cc
find_step false (Some j) x xs r zero d rec e = let z : suc j ≡ 0 = cc in absurd (omega arith)
find_step false (Some j) x xs r (suc i) d rec e =
    let z : suc j ≡ suc i = cc in
    let s : j ≡ i = omega arith in
    let both : (i < length xs) × (r ≡ Some (get_or xs i d)) = rec i (ap Some s) in
    let below : i < length xs = both.0 in
    (omega arith, both.1)

-- what is found by its name is what stands at the name's first place
pub find_some : {A : Type 0} (f : A → List ℕ) (xs : List A) (t : List ℕ) (i : ℕ) (d : A) → place_of (map f xs) t ≡ Some i
    → (i < length xs) × (find (λ x. bytes_eq (f x) t) xs ≡ Some (get_or xs i d))
find_some f [] t i d e = absurd cc
find_some f (x ∷ xs) t i d e = find_step (bytes_eq (f x) t) (place_of (map f xs) t) x xs (find (λ y. bytes_eq (f y) t) xs) i d (λ j h. find_some f xs t j d h) e

nothing_step : {A : Type 0} (b : Bool) (o : Option ℕ) (x : A) (r : Option A) → (o ≡ None → r ≡ None) → cond b (Some 0) (option_map suc o) ≡ None → cond b (Some x) r ≡ None
nothing_step true o x r rec e = absurd cc
nothing_step false None x r rec e = rec refl
nothing_step false (Some j) x r rec e = absurd cc

pub find_none : {A : Type 0} (f : A → List ℕ) (xs : List A) (t : List ℕ) → place_of (map f xs) t ≡ None → find (λ x. bytes_eq (f x) t) xs ≡ None
find_none f [] t e = refl
find_none f (x ∷ xs) t e = nothing_step (bytes_eq (f x) t) (place_of (map f xs) t) x (find (λ y. bytes_eq (f y) t) xs) (λ h. find_none f xs t h) e

abbrev otherwise : Option ℕ → Option ℕ → Option ℕ
otherwise None o = o
otherwise (Some i) o = Some i

suc_otherwise : (a b : Option ℕ) → option_map suc (otherwise a b) ≡ otherwise (option_map suc a) (option_map suc b)
suc_otherwise None b = refl
suc_otherwise (Some i) b = refl

append_step : (b c : Bool) (p q : Option ℕ) (n : ℕ) → q ≡ otherwise p (cond c (Some n) None) → cond b (Some 0) (option_map suc q) ≡ otherwise (cond b (Some 0) (option_map suc p)) (cond c (Some (suc n)) None)
append_step true c p q n e = refl
append_step false true p q n e = ap (option_map suc) e ∙ suc_otherwise p (Some n)
append_step false false p q n e = ap (option_map suc) e ∙ suc_otherwise p None

place_append : (xs : List (List ℕ)) (t q : List ℕ) → place_of (xs ++ t ∷ []) q ≡ otherwise (place_of xs q) (cond (bytes_eq t q) (Some (length xs)) None)
place_append [] t q = refl
place_append (x ∷ xs) t q = append_step (bytes_eq x q) (bytes_eq t q) (place_of xs q) (place_of (xs ++ t ∷ []) q) (length xs) (place_append xs t q)

otherwise_none : (a : Option ℕ) → otherwise a None ≡ a
otherwise_none None = refl
otherwise_none (Some i) = refl

otherwise_some : (a b : Option ℕ) → is_some a ≡ true → otherwise a b ≡ a
otherwise_some None b h = absurd cc
otherwise_some (Some i) b h = refl

again_step : (xs : List (List ℕ)) (t q : List ℕ) (b : Bool) → bytes_eq t q ≡ b → is_some (place_of xs t) ≡ true
    → otherwise (place_of xs q) (cond b (Some (length xs)) None) ≡ place_of xs q
again_step xs t q true e h = otherwise_some (place_of xs q) (Some (length xs)) (ap (λ u. is_some (place_of xs u)) (sym ((bytes_eq-Decides t q).0 e)) ∙ h)
again_step xs t q false e h = otherwise_none (place_of xs q)

-- a text that was there before changes no place
pub place_again : (xs : List (List ℕ)) (t q : List ℕ) → Contains xs t → place_of (xs ++ t ∷ []) q ≡ place_of xs q
place_again xs t q c = place_append xs t q ∙ again_step xs t q (bytes_eq t q) refl ((place_found xs t).1 c)

otherwise_new : (a b : Option ℕ) → (is_some a ≡ true → ⊥) → otherwise a b ≡ b
otherwise_new None b h = refl
otherwise_new (Some i) b h = absurd (h refl)

new_step : (xs : List (List ℕ)) (t q : List ℕ) (b : Bool) → bytes_eq t q ≡ b → (is_some (place_of xs t) ≡ true → ⊥)
    → otherwise (place_of xs q) (cond b (Some (length xs)) None) ≡ cond b (Some (length xs)) (place_of xs q)
new_step xs t q true e h = otherwise_new (place_of xs q) (Some (length xs)) (λ s. h (ap (λ u. is_some (place_of xs u)) ((bytes_eq-Decides t q).0 e) ∙ s))
new_step xs t q false e h = otherwise_none (place_of xs q)

-- a new text has the next place
pub place_new : (xs : List (List ℕ)) (t q : List ℕ) → (Contains xs t → ⊥) → place_of (xs ++ t ∷ []) q ≡ cond (bytes_eq t q) (Some (length xs)) (place_of xs q)
place_new xs t q c = place_append xs t q ∙ new_step xs t q (bytes_eq t q) refl (λ s. c ((place_found xs t).0 s))

-- the places of texts with one more, from those of the texts before
pub places_again : (old now : List (List ℕ)) (t : List ℕ) (q : List ℕ) (here : Option ℕ) → now ≡ old ++ t ∷ [] → Contains old t → here ≡ place_of old q → here ≡ place_of now q
places_again old now t q here e c h = h ∙ sym (place_again old t q c) ∙ ap (λ l. place_of l q) (sym e)

pub places_new : (old now : List (List ℕ)) (t : List ℕ) (q : List ℕ) (here : Option ℕ) (n : ℕ) → now ≡ old ++ t ∷ [] → n ≡ length old → (Contains old t → ⊥) → here ≡ place_of old q
    → cond (bytes_eq t q) (Some n) here ≡ place_of now q
places_new old now t q here n e l c h = ap (cond (bytes_eq t q) (Some n)) h ∙ ap (λ k. cond (bytes_eq t q) (Some k) (place_of old q)) l
    ∙ sym (place_new old t q c) ∙ ap (λ l. place_of l q) (sym e)

-- what stands at the first place of a name, and what is found by it
pub within : {A : Type 0} (f : A → List ℕ) (names : List (List ℕ)) (xs : List A) (t : List ℕ) (i : ℕ) → names ≡ map f xs → Some i ≡ place_of names t → i < length xs
within f names [] t i n e = let h : place_of (map f []) t ≡ Some i = ap (λ l. place_of l t) (sym n) ∙ sym e in absurd cc
within f names (x ∷ xs) t i n e = (find_some f (x ∷ xs) t i x (ap (λ l. place_of l t) (sym n) ∙ sym e)).0

pub is_found : {A : Type 0} (f : A → List ℕ) (names : List (List ℕ)) (xs : List A) (t : List ℕ) (i : ℕ) (x : A) → names ≡ map f xs → Some i ≡ place_of names t → x ≡ get_or xs i x
    → Some x ≡ find (λ y. bytes_eq (f y) t) xs
is_found f names xs t i x n e is = ap Some is ∙ sym (find_some f xs t i x (ap (λ l. place_of l t) (sym n) ∙ sym e)).1

pub is_missing : {A : Type 0} (f : A → List ℕ) (names : List (List ℕ)) (xs : List A) (t : List ℕ) → names ≡ map f xs → None ≡ place_of names t → None ≡ find (λ y. bytes_eq (f y) t) xs
is_missing f names xs t n e = sym (find_none f xs t (ap (λ l. place_of l t) (sym n) ∙ sym e))
