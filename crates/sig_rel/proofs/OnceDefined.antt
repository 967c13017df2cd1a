-- Each signal is defined once, and a condition by an equation that frees it.
use Rattle.sig_rel.proofs.Common.{◌≡◌, ◌<◌, ◌≤◌, inl, inr, ℕ, zero, suc, Bool, true, false, cond, List, [], ◌∷◌, length, get_or, None, Some, refl, sym, ap, ◌∙◌, subst, arith, ◌&&◌, ◌||◌, count_by, nat_lt, slice_get, list_any, and_parts, cases_Bool, cases_lt, eqb-true, false≢true, lt-ltb, ltb-true, or_cases, sum_by-cons, Signal, form_fits, kind_at, operands_of, target_of, IsValid, defines, form_within, is_signal, is_target, target_within, Equation, Form, Fun, Delay, Kernel, freed, frees, is_condition, is_free, is_number, signal_id, compares, is_boolean_kind, any_passes_from_place, or_right, Option, SigId}

abbrev one_where : Bool → ℕ
one_where b = cond b 1 0

counted_there : {X : Type 0} (p : X → Bool) (xs : List X) (i : ℕ) (x : X) → slice_get xs i ≡ Some x → p x ≡ true → 1 ≤ count_by p xs
counted_there p [] i x at is = absurd (let no : None ≡ Some x = at in cc)
counted_there p (y ∷ xs) zero x at is =
    let e : y ≡ x = cc in
    let here = ap one_where (ap p e ∙ is) in
    let sum = sum_by-cons (λ z. cond (p z) 1 0) y xs in
    omega (arith, here, sum)
counted_there p (y ∷ xs) (suc i) x at is =
    let rest = counted_there p xs i x at is in
    let sum = sum_by-cons (λ z. cond (p z) 1 0) y xs in
    omega (arith, rest, sum)

-- where at most one element passes a test, it stands at one place
pub one_place : {X : Type 0} (p : X → Bool) (xs : List X) (i j : ℕ) (x y : X) → count_by p xs ≤ 1 → slice_get xs i ≡ Some x → slice_get xs j ≡ Some y → p x ≡ true → p y ≡ true → i ≡ j
one_place p [] i j x y few at there is has = absurd (let no : None ≡ Some x = at in cc)
one_place p (z ∷ xs) zero zero x y few at there is has = refl
one_place p (z ∷ xs) zero (suc j) x y few at there is has =
    let e : z ≡ x = cc in
    let here = ap one_where (ap p e ∙ is) in
    let rest = counted_there p xs j y there has in
    let sum = sum_by-cons (λ w. cond (p w) 1 0) z xs in
    absurd (omega (arith, here, rest, sum, few))
one_place p (z ∷ xs) (suc i) zero x y few at there is has =
    let e : z ≡ y = cc in
    let here = ap one_where (ap p e ∙ has) in
    let rest = counted_there p xs i x at is in
    let sum = sum_by-cons (λ w. cond (p w) 1 0) z xs in
    absurd (omega (arith, here, rest, sum, few))
one_place p (z ∷ xs) (suc i) (suc j) x y few at there is has =
    let sum = sum_by-cons (λ w. cond (p w) 1 0) z xs in
    ap suc (one_place p xs i j x y (omega (arith, sum, few)) at there is has)

pub any_place : {X : Type 0} (p : X → Bool) (xs : List X) → list_any p xs ≡ true → (i : ℕ) × ((x : X) × (slice_get xs i ≡ Some x) × (p x ≡ true))
any_place p [] any = absurd (false≢true any)
any_place p (x ∷ xs) any = elim (or_cases (p x) (list_any p xs) any) [
  | inl is ↦ (0, (x, refl, is))
  | inr later ↦ let rest = any_place p xs later in (suc rest.0, rest.1)
]

frees_defines : (signals : List Signal) (signal : ℕ) (form : Form) → is_number signal (freed signals form) ≡ true → is_target signal (target_of form) ≡ true
frees_defines signals signal (Fun y op operands) is = by (compares signals op operands) is where
  by : (b : Bool) → is_number signal (cond b (Some y) None) ≡ true → is_target signal (Some y) ≡ true
  by true is = is
  by false is = absurd (false≢true is)
frees_defines signals signal (Delay y x c) is = is
frees_defines signals signal _ is = absurd (false≢true is)

target_is : (n signal : ℕ) (target : Option SigId) → target_within n target ≡ true → is_target signal target ≡ true → signal < n
target_is n signal None within is = absurd (false≢true is)
target_is n signal (Some y) within is = subst (λ m. m < n) (eqb-true y.0 signal is) (ltb-true y.0 n within)

module _ {X : Type 0} where
  pub got_within : (xs : List X) (k : ℕ) (x : X) → slice_get xs k ≡ Some x → k < length xs
  got_within [] k x is = absurd (let no : None ≡ Some x = is in cc)
  got_within (y ∷ xs) zero x is = omega arith
  got_within (y ∷ xs) (suc k) x is = omega (arith, got_within xs k x is)

  pub got_or : (xs : List X) (k : ℕ) (x d : X) → slice_get xs k ≡ Some x → get_or xs k d ≡ x
  got_or [] k x d is = absurd (let no : None ≡ Some x = is in cc)
  got_or (y ∷ xs) zero x d is = cc
  got_or (y ∷ xs) (suc k) x d is = got_or xs k x d is

definition_found : (signal : ℕ) (equations : List Equation) → 1 ≤ count_by (defines signal) equations → (k : ℕ) × ((equation : Equation) × (slice_get equations k ≡ Some equation) × (defines signal equation ≡ true))
definition_found signal [] some = absurd (omega (arith, some))
definition_found signal (e ∷ equations) some = elim (cases_Bool (defines signal e)) [
  | inl is ↦ (0, (e, refl, is))
  | inr is ↦
      let sum = sum_by-cons (λ w. cond (defines signal w) 1 0) e equations in
      let here = ap one_where is in
      let rest = definition_found signal equations (omega (arith, sum, here, some)) in
      (suc rest.0, rest.1)
]

module _ (kernel : Kernel) (valid : IsValid kernel) where
  -- an equation of the kernel keeps to what is asked of each
  pub within_at : (k : ℕ) (equation : Equation) → slice_get kernel.equations k ≡ Some equation → form_within (length kernel.signals) equation.form ≡ true
  within_at k equation at = subst (λ (e : Equation). form_within (length kernel.signals) e.form ≡ true) (got_or kernel.equations k equation equation at) (valid.equations.within k equation (got_within kernel.equations k equation at))

  pub fits_at : (k : ℕ) (equation : Equation) → slice_get kernel.equations k ≡ Some equation → form_fits kernel.signals equation.form ≡ true
  fits_at k equation at = subst (λ (e : Equation). form_fits kernel.signals e.form ≡ true) (got_or kernel.equations k equation equation at) (valid.equations.fit k equation (got_within kernel.equations k equation at))

  pub speaks_at : (k : ℕ) (equation : Equation) → slice_get kernel.equations k ≡ Some equation → list_any is_signal (operands_of equation.form) ≡ true
  speaks_at k equation at = subst (λ (e : Equation). list_any is_signal (operands_of e.form) ≡ true) (got_or kernel.equations k equation equation at) (valid.equations.speak k equation (got_within kernel.equations k equation at))

  few : (signal k : ℕ) (equation : Equation) → slice_get kernel.equations k ≡ Some equation → defines signal equation ≡ true → (kernel.inputs ≤ signal) × (count_by (defines signal) kernel.equations ≡ 1)
  few signal k equation at is = elim (cases_lt signal kernel.inputs) [
    | inl lt ↦ let none = valid.defined.inputs signal lt in let some = counted_there (defines signal) kernel.equations k equation at is in absurd (omega (arith, none, some))
    | inr le ↦ (le, valid.defined.others signal le (target_is (length kernel.signals) signal (target_of equation.form) (and_parts (target_within (length kernel.signals) (target_of equation.form)) _ (within_at k equation at)).0 is))
  ]

  pub defined_once : (signal i j : ℕ) (e f : Equation) → slice_get kernel.equations i ≡ Some e → slice_get kernel.equations j ≡ Some f → defines signal e ≡ true → defines signal f ≡ true → i ≡ j
  defined_once signal i j e f at there is has = let one = (few signal i e at is).1 in one_place (defines signal) kernel.equations i j e f (omega (arith, one)) at there is has

  pub some_definition : (signal : ℕ) → is_condition kernel signal ≡ false → is_boolean_kind (kind_at kernel.signals (signal_id signal)) ≡ true → signal < length kernel.signals
      → (k : ℕ) × ((equation : Equation) × (slice_get kernel.equations k ≡ Some equation) × (defines signal equation ≡ true))
  some_definition signal not_free boolean lt = elim (cases_lt signal kernel.inputs) [
    | inl input ↦ absurd (false≢true (sym not_free ∙ (λ j. boolean j && (lt-ltb signal kernel.inputs input j || list_any (frees kernel.signals signal) kernel.equations))))
    | inr le ↦ definition_found signal kernel.equations (let one = valid.defined.others signal le lt in omega (arith, one))
  ]

  -- a condition that an equation defines is freed by it
  pub freed_there : (signal k : ℕ) (equation : Equation) → slice_get kernel.equations k ≡ Some equation → defines signal equation ≡ true → is_condition kernel signal ≡ true → frees kernel.signals signal equation ≡ true
  freed_there signal k equation at is condition = elim (or_cases (nat_lt signal kernel.inputs) (list_any (frees kernel.signals signal) kernel.equations) (and_parts (is_boolean_kind (kind_at kernel.signals (signal_id signal))) (is_free kernel signal) condition).1) [
    | inl input ↦ let lt = ltb-true signal kernel.inputs input in let le = (few signal k equation at is).0 in absurd (omega (arith, lt, le))
    | inr any ↦
        let there = any_place (frees kernel.signals signal) kernel.equations any in
        let same = defined_once signal there.0 k there.1.0 equation there.1.1 at (frees_defines kernel.signals signal there.1.0.form there.1.2) is in
        let both : Some there.1.0 ≡ Some equation = sym there.1.1 ∙ ap (slice_get kernel.equations) same ∙ at in
        let e : there.1.0 ≡ equation = cc in
        subst (λ (d : Equation). frees kernel.signals signal d ≡ true) e there.1.2
  ]

  -- and one that frees nothing defines no condition
  pub not_freed : (signal k : ℕ) (equation : Equation) → slice_get kernel.equations k ≡ Some equation → defines signal equation ≡ true → frees kernel.signals signal equation ≡ false → is_condition kernel signal ≡ false
  not_freed signal k equation at is none = by (is_condition kernel signal) refl where
    by : (b : Bool) → is_condition kernel signal ≡ b → is_condition kernel signal ≡ false
    by true e = absurd (false≢true (sym none ∙ freed_there signal k equation at is e))
    by false e = e

-- a boolean that an equation frees is a condition
pub condition_freed : (kernel : Kernel) (signal k : ℕ) (equation : Equation) → slice_get kernel.equations k ≡ Some equation → frees kernel.signals signal equation ≡ true
    → is_boolean_kind (kind_at kernel.signals (signal_id signal)) ≡ true → is_condition kernel signal ≡ true
condition_freed kernel signal k equation at is boolean =
    (λ j. boolean j && is_free kernel signal) ∙ or_right (nat_lt signal kernel.inputs) (list_any (frees kernel.signals signal) kernel.equations) (any_passes_from_place (frees kernel.signals signal) kernel.equations k equation at is)
