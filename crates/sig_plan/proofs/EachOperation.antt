-- What holds of each operation of a kernel, since it holds of what each equation makes.
use Rattle.sig_plan.proofs.Common.{◌≡◌, ◌<◌, ◌≤◌, ◌+◌, inl, inr, ℕ, Bool, true, List, [], ◌∷◌, length, map, get_or, refl, sym, ◌∙◌, subst, arith, Contains, zero, suc, All, ◌&&◌, list_all, range_with_len, and_parts, ltb-true, All-append, All-cons, All-nil, EqId, SigId, Signal, signal_id, operands_of, target_of, IsValid, form_within, is_below, operand_within, target_within, Equation, Form, Fun, Delay, When, WhenConst, Default, Sync, Event, Operand, Sig, Const, Kernel, Guard, Operation, Presence, equation_id, of_each, operations_of, read_of, signals_of, stores_of, without, writes_of, writing, Left, Right, contains_cons, contains_none}

module _ (P : Operation → Type 0) where
  pub only : (p : Operation) → P p → All P (p ∷ [])
  only p is = All-cons P p [] is (All-nil P)

  each_of : (Q : EqId → Form → Type 0) (make : EqId → Form → List Operation) → ((number : EqId) (form : Form) → Q number form → All P (make number form))
      → (n : ℕ) (equations : List Equation) → ((k : ℕ) (d : Equation) → k < length equations → Q (equation_id (n + k)) (get_or equations k d).form) → All P (of_each make n equations)
  each_of Q make from n [] each = All-nil P
  each_of Q make from n (equation ∷ equations) each =
      let here : n + 0 ≡ n = omega arith in
      All-append P (make (equation_id n) equation.form) (of_each make (n + 1) equations)
      (from (equation_id n) equation.form (subst (λ m. Q (equation_id m) equation.form) here (each 0 equation (omega arith))))
      (each_of Q make from (n + 1) equations (λ k d lt.
      let next : n + suc k ≡ n + 1 + k = omega arith in
      subst (λ m. Q (equation_id m) (get_or equations k d).form) next (each (suc k) d (omega (arith, lt)))))

  reads_of : (signals : List Signal) (presence : Presence) (a n : ℕ) → ((number : ℕ) → a ≤ number → number < a + n → P (read_of signals presence (signal_id number))) → All P (map (λ number. read_of signals presence (signal_id number)) (range_with_len a n))
  reads_of signals presence a zero each = All-nil P
  reads_of signals presence a (suc n) each =
      All-cons P _ _ (each a (omega arith) (omega arith)) (reads_of signals presence (a + 1) n (λ number above below. each number (omega (arith, above)) (omega (arith, below))))

  -- what holds of the operations of the inputs, and of those of each equation
  pub each_operation : (kernel : Kernel) (presence : Presence) (Q : EqId → Form → Type 0) → ((k : ℕ) (d : Equation) → k < length kernel.equations → Q (equation_id k) (get_or kernel.equations k d).form)
      → ((number : ℕ) → number < kernel.inputs → P (read_of kernel.signals presence (signal_id number)))
      → ((number : EqId) (form : Form) → Q number form → All P (writes_of kernel.signals presence number form)) → ((number : EqId) (form : Form) → Q number form → All P (stores_of kernel.signals presence number form))
      → All P (operations_of kernel presence)
  each_operation kernel presence Q each reads writes stores =
      let from : (k : ℕ) (d : Equation) → k < length kernel.equations → Q (equation_id (0 + k)) (get_or kernel.equations k d).form = λ k d lt.
      let same : k ≡ 0 + k = omega arith in subst (λ m. Q (equation_id m) (get_or kernel.equations k d).form) same (each k d lt) in
      All-append P _ _
      (All-append P _ _ (reads_of kernel.signals presence 0 kernel.inputs (λ number above below. reads number (omega (arith, below)))) (each_of Q (writes_of kernel.signals presence) writes 0 kernel.equations from))
      (each_of Q (stores_of kernel.signals presence) stores 0 kernel.equations from)

-- ---- signals of forms

module _ (n : ℕ) where
  pub target_below : (form : Form) (y : SigId) → form_within n form ≡ true → target_within n (target_of form) ≡ is_below n y → y.0 < n
  target_below form y within same =
      let first = (and_parts (target_within n (target_of form)) (list_all (operand_within n) (operands_of form)) within).0 in
      ltb-true y.0 n (sym same ∙ first)

  pub operands_below : (form : Form) → form_within n form ≡ true → list_all (operand_within n) (operands_of form) ≡ true
  operands_below form within = (and_parts (target_within n (target_of form)) (list_all (operand_within n) (operands_of form)) within).1

  pub first_below : (x : SigId) (rest : Bool) → (is_below n x && rest) ≡ true → x.0 < n
  first_below x rest all = ltb-true x.0 n (and_parts (is_below n x) rest all).0

  pub second_below : (x y : SigId) → (is_below n x && (is_below n y && true)) ≡ true → y.0 < n
  second_below x y all = ltb-true y.0 n (and_parts (is_below n y) true (and_parts (is_below n x) (is_below n y && true) all).1).0

  -- the signals among operands
  pub signal_below : (operands : List Operand) (x : SigId) → list_all (operand_within n) operands ≡ true → Contains (signals_of operands) x → x.0 < n
  signal_below [] x all there = absurd (contains_none x there)
  signal_below (Sig z ∷ operands) x all there = elim (contains_cons z x (signals_of operands) there) [
    | inl is ↦ subst (λ (y : SigId). y.0 < n) (sym is) (first_below z (list_all (operand_within n) operands) all)
    | inr later ↦ signal_below operands x (and_parts (is_below n z) (list_all (operand_within n) operands) all).1 later
  ]
  signal_below (Const c ∷ operands) x all there = signal_below operands x (and_parts true (list_all (operand_within n) operands) all).1 there

-- ---- guards

-- what holds of the clock function of each signal, and of where one is true and another one is not, holds of each guard
pub each_guard : (kernel : Kernel) (presence : Presence) (P : Guard → Type 0) → IsValid kernel → ((x : SigId) → x.0 < length kernel.signals → P (presence x))
    → ((u v : SigId) → u.0 < length kernel.signals → v.0 < length kernel.signals → P (without (presence v) (presence u))) → All (λ (p : Operation). P p.guard) (operations_of kernel presence)
each_guard kernel presence P valid one two =
    each_operation (λ (p : Operation). P p.guard) kernel presence (λ number form. form_within (length kernel.signals) form ≡ true) (λ k d lt. valid.equations.within k d lt)
    (λ number lt. one (signal_id number) (omega (arith, lt, valid.parts.interface, valid.parts.declared))) writes stores
  where
    Guarded : Operation → Type 0
    Guarded p = P p.guard

    writes : (number : EqId) (form : Form) → form_within (length kernel.signals) form ≡ true → All (λ (p : Operation). P p.guard) (writes_of kernel.signals presence number form)
    writes number (Fun y op operands) within = only Guarded _ (one y (target_below (length kernel.signals) (Fun y op operands) y within refl))
    writes number (When y x b) within = only Guarded _ (one y (target_below (length kernel.signals) (When y x b) y within refl))
    writes number (WhenConst y constant b) within = only Guarded _ (one y (target_below (length kernel.signals) (WhenConst y constant b) y within refl))
    writes number (Event y x) within = only Guarded _ (one y (target_below (length kernel.signals) (Event y x) y within refl))
    writes number (Delay y x initial) within = only Guarded _ (one y (target_below (length kernel.signals) (Delay y x initial) y within refl))
    writes number (Sync x y) within = All-nil Guarded
    writes number (Default y u v) within =
        let operands = operands_below (length kernel.signals) (Default y u v) within in
        let at_u = first_below (length kernel.signals) u _ operands in
        let at_v = second_below (length kernel.signals) u v operands in
        All-cons Guarded (writing kernel.signals number Left (presence u) y (u ∷ [])) (writing kernel.signals number Right (without (presence v) (presence u)) y (v ∷ []) ∷ [])
        (one u at_u) (only Guarded _ (two u v at_u at_v))

    stores : (number : EqId) (form : Form) → form_within (length kernel.signals) form ≡ true → All (λ (p : Operation). P p.guard) (stores_of kernel.signals presence number form)
    stores number (Delay y x initial) within = only Guarded _ (one x (first_below (length kernel.signals) x _ (operands_below (length kernel.signals) (Delay y x initial) within)))
    stores number _ within = All-nil Guarded
