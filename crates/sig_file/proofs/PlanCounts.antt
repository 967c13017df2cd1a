-- A plan's image has few memories and few operations: each comes from an equation that defines a signal, and none defines what
-- another one defines.
use Rattle.sig_file.proofs.Common.{◌≡◌, ℕ, zero, suc, ◌+◌, ◌<◌, ◌≤◌, inl, inr, Bool, true, false, cond, List, [], ◌∷◌, ◌++◌, length, map, slice_get, Option, Some, None, refl, sym, ap, ◌∙◌, arith, eqb, ltb, lt-ltb, le-ltb, eq-eqb, length-append, SigId, diagram, list_all, count_by, filter_map, ◌*◌, cons_option, range_with_len, and_parts, cases_order, length-range_with_len, sum_by-cons, length-map, EqId, OpId, Signal, operands_of, target_of, defines, form_within, is_below, is_target, operand_within, target_within, IsValid, Equation, Form, Fun, Delay, When, WhenConst, Default, Sync, EventOf, Kernel, Operation, Presence, equation_id, of_each, operations_of, presence_in, read_of, stores_of, writes_of, IsAccepted, PlanView, Op, before, image_op, made_of, memory_of, ordered, visited, ImageMemory, ImageNode, ImageOp, ne_eqb}
use Rattle.sig_clock.specs.Conditions.{signal_id}

one_of : Bool → ℕ
one_of b = cond b 1 0

total : {A : Type 0} → (A → ℕ) → List A → ℕ
total f [] = 0
total f (x ∷ xs) = f x + total f xs

total_sum : {A : Type 0} (f g h : A → ℕ) (xs : List A) → ((x : A) → f x ≡ g x + h x) → total f xs ≡ total g xs + total h xs
unfolding total
total_sum f g h [] each = omega arith
total_sum f g h (x ∷ xs) each = omega (arith, each x, total_sum f g h xs each)

total_none : {A : Type 0} (f : A → ℕ) (xs : List A) → ((x : A) → f x ≡ 0) → total f xs ≡ 0
unfolding total
total_none f [] each = refl
total_none f (x ∷ xs) each = omega (arith, each x, total_none f xs each)

counted : {A : Type 0} (p : A → Bool) (xs : List A) → count_by p xs ≡ total (λ x. one_of (p x)) xs
unfolding total one_of
counted p [] = refl
counted p (x ∷ xs) = sum_by-cons (λ y. cond (p y) 1 0) x xs ∙ ap (λ n. cond (p x) 1 0 + n) (counted p xs)

-- ---- equations that define signals below a number

is_under : ℕ → Option SigId → Bool
is_under n None = false
is_under n (Some y) = ltb y.0 n

under : ℕ → List Equation → ℕ
under n equations = total (λ (d : Equation). one_of (is_under n (target_of d.form))) equations

three : (a b c : Bool) (x y z : Bool) → a ≡ x → b ≡ y → c ≡ z → one_of x ≡ one_of y + one_of z → one_of a ≡ one_of b + one_of c
three a b c x y z e f g h = ap one_of e ∙ h ∙ ap (λ w. one_of w + one_of z) (sym f) ∙ ap (λ w. one_of b + one_of w) (sym g)

one_more : (n : ℕ) (t : Option SigId) → one_of (is_under (suc n) t) ≡ one_of (is_under n t) + one_of (is_target n t)
unfolding is_under one_of
one_more n None = omega arith
one_more n (Some y) = elim (cases_order y.0 n) [
  | inl e ↦ three (ltb y.0 (suc n)) (ltb y.0 n) (eqb y.0 n) true false true (lt-ltb y.0 (suc n) (omega (arith, e))) (le-ltb y.0 n (omega (arith, e))) (eq-eqb y.0 n e) (omega arith)
  | inr (inl lt) ↦ three (ltb y.0 (suc n)) (ltb y.0 n) (eqb y.0 n) true true false (lt-ltb y.0 (suc n) (omega (arith, lt))) (lt-ltb y.0 n lt) (ne_eqb y.0 n (λ e. omega (arith, e, lt))) (omega arith)
  | inr (inr gt) ↦ three (ltb y.0 (suc n)) (ltb y.0 n) (eqb y.0 n) false false false (le-ltb y.0 (suc n) (omega (arith, gt))) (le-ltb y.0 n (omega (arith, gt))) (ne_eqb y.0 n (λ e. omega (arith, e, gt))) (omega arith)
]

nothing_under : (t : Option SigId) → one_of (is_under 0 t) ≡ 0
unfolding is_under one_of
nothing_under None = refl
nothing_under (Some y) = ap one_of (le-ltb y.0 0 (omega arith))

-- as many at most as the number
few_under : (equations : List Equation) (all : ℕ) → ((n : ℕ) → n < all → count_by (defines n) equations ≤ 1) → (n : ℕ) → n ≤ all → under n equations ≤ n
unfolding under
few_under equations all once zero le = omega (arith, total_none (λ (d : Equation). one_of (is_under 0 (target_of d.form))) equations (λ d. nothing_under (target_of d.form)))
few_under equations all once (suc n) le =
    let sum = total_sum (λ (d : Equation). one_of (is_under (suc n) (target_of d.form))) (λ (d : Equation). one_of (is_under n (target_of d.form))) (λ (d : Equation). one_of (defines n d)) equations (λ d. one_more n (target_of d.form)) in
    omega (arith, sum, counted (defines n) equations, once n (omega (arith, le)), few_under equations all once n (omega (arith, le)))

defined_once : (kernel : Kernel) → IsValid kernel → (n : ℕ) → n < length kernel.signals → count_by (defines n) kernel.equations ≤ 1
defined_once kernel valid n lt = elim (cases_order n kernel.inputs) [
  | inl e ↦ omega (arith, valid.defined.others n (omega (arith, e)) lt)
  | inr (inl less) ↦ omega (arith, valid.defined.inputs n less)
  | inr (inr more) ↦ omega (arith, valid.defined.others n (omega (arith, more)) lt)
]

-- the equations that define a signal are no more than the signals
defining_few : (kernel : Kernel) → IsValid kernel → under (length kernel.signals) kernel.equations ≤ length kernel.signals
defining_few kernel valid = few_under kernel.equations (length kernel.signals) (defined_once kernel valid) (length kernel.signals) (omega arith)

-- ---- what is made of equations

module _ (n : ℕ) where
  defined : (form : Form) (y : SigId) → form_within n form ≡ true → target_of form ≡ Some y → target_within n (target_of form) ≡ is_below n y → one_of (is_under n (target_of form)) ≡ 1
  unfolding is_under one_of
  defined form y within is same =
      ap (λ (t : Option SigId). one_of (is_under n t)) is ∙ ap one_of (sym same ∙ (and_parts (target_within n (target_of form)) (list_all (operand_within n) (operands_of form)) within).0)

  one_memory : (signals : List Signal) (form : Form) → form_within n form ≡ true → (rest : List ImageMemory) → length (cons_option (memory_of signals form) rest) ≤ one_of (is_under n (target_of form)) + length rest
  one_memory signals (Delay y x init) within rest = omega (arith, defined (Delay y x init) y within refl refl)
  one_memory signals other within rest = omega arith

  memories_under : (signals : List Signal) (equations : List Equation) → ((k : ℕ) (d : Equation) → slice_get equations k ≡ Some d → form_within n d.form ≡ true)
      → length (filter_map (λ (d : Equation). memory_of signals d.form) equations) ≤ under n equations
  unfolding under total
  memories_under signals [] within = omega arith
  memories_under signals (d ∷ equations) within =
      omega (arith, one_memory signals d.form (within 0 d refl) (filter_map (λ (d : Equation). memory_of signals d.form) equations), memories_under signals equations (λ k. within (suc k)))

  IsShort : (EqId → Form → List Operation) → Type 0
  IsShort make = (number : EqId) (form : Form) → form_within n form ≡ true → length (make number form) ≤ 2 * one_of (is_under n (target_of form))

  writes_short : (signals : List Signal) (presence : Presence) → IsShort (writes_of signals presence)
  unfolding IsShort
  writes_short signals presence number (Delay y x init) within = omega (arith, defined (Delay y x init) y within refl refl)
  writes_short signals presence number (Fun y op operands) within = omega (arith, defined (Fun y op operands) y within refl refl)
  writes_short signals presence number (When y x b) within = omega (arith, defined (When y x b) y within refl refl)
  writes_short signals presence number (WhenConst y constant b) within = omega (arith, defined (WhenConst y constant b) y within refl refl)
  writes_short signals presence number (Default y u v) within = omega (arith, defined (Default y u v) y within refl refl)
  writes_short signals presence number (Sync x y) within = omega arith
  writes_short signals presence number (EventOf y x) within = omega (arith, defined (EventOf y x) y within refl refl)

  stores_short : (signals : List Signal) (presence : Presence) → IsShort (stores_of signals presence)
  unfolding IsShort
  stores_short signals presence number (Delay y x init) within = omega (arith, defined (Delay y x init) y within refl refl)
  stores_short signals presence number other within = omega arith

  each_short : (make : EqId → Form → List Operation) → IsShort make → (m : ℕ) (equations : List Equation) → ((k : ℕ) (d : Equation) → slice_get equations k ≡ Some d → form_within n d.form ≡ true)
      → length (of_each make m equations) ≤ 2 * under n equations
  unfolding under total IsShort
  each_short make short m [] within = omega arith
  each_short make short m (d ∷ equations) within =
      omega (arith, length-append (make (equation_id m) d.form) (of_each make (m + 1) equations), short (equation_id m) d.form (within 0 d refl), each_short make short (m + 1) equations (λ k. within (suc k)))

-- there are no more memories than signals
pub memories_few : (kernel : Kernel) → IsValid kernel → ((k : ℕ) (d : Equation) → slice_get kernel.equations k ≡ Some d → form_within (length kernel.signals) d.form ≡ true)
    → length (filter_map (λ (d : Equation). memory_of kernel.signals d.form) kernel.equations) ≤ length kernel.signals
memories_few kernel valid within = omega (arith, memories_under (length kernel.signals) kernel.signals kernel.equations within, defining_few kernel valid)

reads_few : (signals : List Signal) (presence : Presence) (inputs : ℕ) → length (map (λ number. read_of signals presence (signal_id number)) (range_with_len 0 inputs)) ≡ inputs
reads_few signals presence inputs = length-map (range_with_len 0 inputs) (λ number. read_of signals presence (signal_id number)) ∙ length-range_with_len 0 inputs

-- there are no more operations than five for each signal
operations_few : (kernel : Kernel) (presence : Presence) → IsValid kernel → ((k : ℕ) (d : Equation) → slice_get kernel.equations k ≡ Some d → form_within (length kernel.signals) d.form ≡ true)
    → length (operations_of kernel presence) ≤ 5 * length kernel.signals
operations_few kernel presence valid within =
    let reads = map (λ number. read_of kernel.signals presence (signal_id number)) (range_with_len 0 kernel.inputs) in
    let writes = of_each (writes_of kernel.signals presence) 0 kernel.equations in
    let stores = of_each (stores_of kernel.signals presence) 0 kernel.equations in
    let parts = valid.parts in
    omega (
      arith,
      length-append (reads ++ writes) stores,
      length-append reads writes,
      reads_few kernel.signals presence kernel.inputs,
      each_short (length kernel.signals) (writes_of kernel.signals presence) (writes_short (length kernel.signals) kernel.signals presence) 0 kernel.equations within,
      each_short (length kernel.signals) (stores_of kernel.signals presence) (stores_short (length kernel.signals) kernel.signals presence) 0 kernel.equations within,
      defining_few kernel valid,
      parts.interface,
      parts.declared,
    )

-- ---- operations in compiled order

before_few : (o : Option ImageOp) (ops : List ImageOp) → length (before o ops) ≤ suc (length ops)
before_few None ops = omega arith
before_few (Some op) ops = omega arith

made_few : (plan : PlanView) (ops : List Op) (nodes : List ImageNode) → length (made_of plan ops nodes).1 ≤ length ops
made_few plan [] nodes = omega arith
made_few plan (op ∷ ops) nodes =
    let guard = visited (diagram plan.store.nodes op.guard) nodes in
    omega (arith, before_few (image_op plan.kernel guard.1 op.kind op.eq) (made_of plan ops guard.0).1, made_few plan ops guard.0)

one_kept : {B : Type 0} (o : Option B) (ys : List B) (n : ℕ) → length ys ≤ n → length (cons_option o ys) ≤ suc n
one_kept None ys n le = omega (arith, le)
one_kept (Some y) ys n le = omega (arith, le)

kept_few : {A B : Type 0} (f : A → Option B) (xs : List A) → length (filter_map f xs) ≤ length xs
kept_few f [] = omega arith
kept_few f (x ∷ xs) = one_kept (f x) (filter_map f xs) (length xs) (kept_few f xs)

-- the operations of a plan's image are no more than five for each signal
pub ops_few : (plan : PlanView) → IsAccepted plan → ((k : ℕ) (d : Equation) → slice_get plan.kernel.equations k ≡ Some d → form_within (length plan.kernel.signals) d.form ≡ true)
    → length (made_of plan (ordered plan) []).1 ≤ 5 * length plan.kernel.signals
ops_few plan accepted within =
    let all = operations_few plan.kernel (presence_in plan.store.nodes plan.clocks) accepted.valid within in
    let same = ap (λ (os : List Operation). length os) accepted.operations.are in
    let taken = accepted.order.all in
    let numbers = length-map plan.order (λ (number : OpId). number.0) in
    omega (arith, made_few plan (ordered plan) [], kept_few (λ (number : OpId). slice_get plan.ops number.0) plan.order, numbers, taken, same, all)
