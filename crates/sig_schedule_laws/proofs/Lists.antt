-- Lists: fronts, what is chosen of them, and what is put into them.
use Rattle.sig_schedule_laws.proofs.Common.{◌≡◌, ◌++◌, inl, inr, ℕ, zero, suc, Bool, true, false, cond, List, [], ◌∷◌, set, take, refl, ap, sym, ◌∙◌, arith, None, Option, Some, flat_map, option_to_list, slice_get, ◌==◌, ◌||◌, cons_option, filter_map, list_any, eq-eqb, ne_eqb, append-nil, append_assoc, filter_map-append, cases_eq}

pub take_next : {A : Type 0} (s : ℕ) (xs : List A) (x : A) → slice_get xs s ≡ Some x → take (suc s) xs ≡ take s xs ++ x ∷ []
take_next {A} s [] x is = absurd (let e : None ≡ Some x = is in cc)
take_next {A} zero (y ∷ xs) x is = let e : Some y ≡ Some x = is in let same : y ≡ x = cc in ap (λ z. z ∷ []) same
take_next {A} (suc s) (y ∷ xs) x is = ap (λ zs. y ∷ zs) (take_next s xs x is)

pub any_push : {A : Type 0} (f : A → Bool) (xs : List A) (x : A) → list_any f (xs ++ x ∷ []) ≡ (list_any f xs || f x)
any_push {A} f [] x = last (f x) where
  last : (b : Bool) → (b || false) ≡ b
  last true = refl
  last false = refl
any_push {A} f (y ∷ xs) x = by (f y) (any_push f xs x) where
  by : (b : Bool) → list_any f (xs ++ x ∷ []) ≡ (list_any f xs || f x) → (b || list_any f (xs ++ x ∷ [])) ≡ ((b || list_any f xs) || f x)
  by true rest = refl
  by false rest = rest

pub chosen_push : {A B : Type 0} (f : A → Option B) (xs : List A) (x : A) → filter_map f (xs ++ x ∷ []) ≡ filter_map f xs ++ option_to_list (f x)
chosen_push {A} {B} f xs x = filter_map-append f xs (x ∷ []) ∙ ap (λ ys. filter_map f xs ++ ys) (by (f x)) where
  by : (o : Option B) → cons_option o [] ≡ option_to_list o
  by None = refl
  by (Some y) = refl

pub none_chosen : {A B : Type 0} (f : A → Option B) (xs : List A) → ((i : ℕ) (x : A) → slice_get xs i ≡ Some x → f x ≡ None) → filter_map f xs ≡ []
none_chosen {A} {B} f [] none = refl
none_chosen {A} {B} f (x ∷ xs) none = ap (λ o. cons_option o (filter_map f xs)) (none 0 x refl) ∙ none_chosen f xs (λ i y at. none (suc i) y at)

pub one_chosen : {A B : Type 0} (f : A → Option B) (xs : List A) (k : ℕ) (x : A) (v : B) → slice_get xs k ≡ Some x → f x ≡ Some v
    → ((i : ℕ) (y : A) → slice_get xs i ≡ Some y → ((i ≡ k) → ⊥) → f y ≡ None) → filter_map f xs ≡ v ∷ []
one_chosen {A} {B} f [] k x v at is others = absurd (let e : None ≡ Some x = at in cc)
one_chosen {A} {B} f (y ∷ xs) zero x v at is others =
    let e : Some y ≡ Some x = at in
    let same : y ≡ x = cc in
    ap (λ o. cons_option o (filter_map f xs)) (ap f same ∙ is) ∙ ap (λ zs. v ∷ zs) (none_chosen f xs (λ i z there. others (suc i) z there (λ e. omega (arith, e))))
one_chosen {A} {B} f (y ∷ xs) (suc k) x v at is others =
    ap (λ o. cons_option o (filter_map f xs)) (others 0 y refl (λ e. omega (arith, e))) ∙ one_chosen f xs k x v at is (λ i z there apart. others (suc i) z there (λ e. apart (omega (arith, e))))

pub joined_push : {A B : Type 0} (f : A → List B) (xs : List A) (x : A) → flat_map f (xs ++ x ∷ []) ≡ flat_map f xs ++ f x
joined_push {A} {B} f [] x = append-nil (f x)
joined_push {A} {B} f (y ∷ xs) x = ap (λ zs. f y ++ zs) (joined_push f xs x) ∙ sym (append_assoc (f y) (flat_map f xs) (f x))

pub joined_same : {A B : Type 0} (f g : A → List B) (xs : List A) → ((i : ℕ) (x : A) → slice_get xs i ≡ Some x → f x ≡ g x) → flat_map f xs ≡ flat_map g xs
joined_same {A} {B} f g [] same = refl
joined_same {A} {B} f g (x ∷ xs) same = ap (λ zs. zs ++ flat_map f xs) (same 0 x refl) ∙ ap (λ zs. g x ++ zs) (joined_same f g xs (λ i y at. same (suc i) y at))

-- ---- what is put at one place

abbrev pub put : {A : Type 0} → ℕ → A → ℕ → A → A
put k x m old = cond (m == k) x old

pub put_here : {A : Type 0} (k : ℕ) (x : A) (m : ℕ) (old : A) → m ≡ k → put k x m old ≡ x
put_here {A} k x m old same = ap (λ b. cond b x old) (eq-eqb m k same)

pub put_elsewhere : {A : Type 0} (k : ℕ) (x : A) (m : ℕ) (old : A) → ((m ≡ k) → ⊥) → put k x m old ≡ old
put_elsewhere {A} k x m old apart = ap (λ b. cond b x old) (ne_eqb m k apart)

put_later : {A : Type 0} (k : ℕ) (x : A) (m : ℕ) (old : A) → put k x m old ≡ put (suc k) x (suc m) old
put_later {A} k x m old = elim (cases_eq m k) [
  | inl same ↦ put_here k x m old same ∙ sym (put_here (suc k) x (suc m) old (ap suc same))
  | inr apart ↦ put_elsewhere k x m old apart ∙ sym (put_elsewhere (suc k) x (suc m) old (λ e. apart (omega (arith, e))))
]

pub set_get : {A : Type 0} (xs : List A) (k : ℕ) (x : A) (m : ℕ) (y : A) → slice_get (set xs k x) m ≡ Some y → (old : A) × (slice_get xs m ≡ Some old) × (y ≡ put k x m old)
set_get {A} [] k x m y is = absurd (let e : None ≡ Some y = is in cc)
set_get {A} (z ∷ xs) zero x zero y is = (z, refl, let e : Some x ≡ Some y = is in let same : x ≡ y = cc in sym same)
set_get {A} (z ∷ xs) zero x (suc m) y is = (y, is, sym (put_elsewhere 0 x (suc m) y (λ e. omega (arith, e))))
set_get {A} (z ∷ xs) (suc k) x zero y is = (z, refl, let e : Some z ≡ Some y = is in let same : z ≡ y = cc in sym same ∙ sym (put_elsewhere (suc k) x 0 z (λ e. omega (arith, e))))
set_get {A} (z ∷ xs) (suc k) x (suc m) y is = let rest = set_get xs k x m y is in (rest.0, rest.1, rest.2 ∙ put_later k x m rest.0)
