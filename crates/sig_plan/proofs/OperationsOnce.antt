-- The operations of a kernel are one thing.
use Rattle.sig_plan.proofs.Common.{◌≡◌, ◌<◌, ◌≤◌, ◌+◌, ℕ, true, List, [], ◌∷◌, ◌++◌, length, map, refl, sym, ◌∙◌, subst, arith, zero, suc, ◌&&◌, None, Some, AllPass, list_all, range_with_len, and_parts, ltb-true, All-head, All-tail, EqId, SigId, IsClockFunction, signal_id, operands_of, target_of, IsValid, form_within, is_below, operand_within, target_within, Equation, Form, Fun, Delay, When, WhenConst, Default, Sync, Event, Kernel, HasOperations, Operation, Presence, cluster_at, equation_id, of_each, operations_of, read_of, stores_of, without, writes_of, writing, signals_of, Read, Compute, Left, Right, DelayRead, Store, conditions_once, function_once}

-- ---- operations

module _ (kernel : Kernel) (p q : Presence) (same : (x : SigId) → x.0 < length kernel.signals → p x ≡ q x) where
  below : (x : SigId) → is_below (length kernel.signals) x ≡ true → p x ≡ q x
  below x is = same x (ltb-true x.0 (length kernel.signals) is)

  -- the signal that a form defines, and the operands
  target : (form : Form) → form_within (length kernel.signals) form ≡ true → target_within (length kernel.signals) (target_of form) ≡ true
  target form within = (and_parts (target_within (length kernel.signals) (target_of form)) (list_all (operand_within (length kernel.signals)) (operands_of form)) within).0

  operands : (form : Form) → form_within (length kernel.signals) form ≡ true → list_all (operand_within (length kernel.signals)) (operands_of form) ≡ true
  operands form within = (and_parts (target_within (length kernel.signals) (target_of form)) (list_all (operand_within (length kernel.signals)) (operands_of form)) within).1

  left_operand : (x y : SigId) → (is_below (length kernel.signals) x && (is_below (length kernel.signals) y && true)) ≡ true → p x ≡ q x
  left_operand x y all = below x (and_parts (is_below (length kernel.signals) x) (is_below (length kernel.signals) y && true) all).0

  right_operand : (x y : SigId) → (is_below (length kernel.signals) x && (is_below (length kernel.signals) y && true)) ≡ true → p y ≡ q y
  right_operand x y all = below y (and_parts (is_below (length kernel.signals) y) true (and_parts (is_below (length kernel.signals) x) (is_below (length kernel.signals) y && true) all).1).0

  same_writes : (number : EqId) (form : Form) → form_within (length kernel.signals) form ≡ true → writes_of kernel.signals p number form ≡ writes_of kernel.signals q number form
  same_writes number (Fun y op xs) within = let e = below y (target (Fun y op xs) within) in λ j. writing kernel.signals number Compute (e j) y (signals_of xs) ∷ []
  same_writes number (When y x b) within = let e = below y (target (When y x b) within) in λ j. writing kernel.signals number Compute (e j) y (x ∷ []) ∷ []
  same_writes number (WhenConst y constant b) within = let e = below y (target (WhenConst y constant b) within) in λ j. writing kernel.signals number Compute (e j) y [] ∷ []
  same_writes number (Event y x) within = let e = below y (target (Event y x) within) in λ j. writing kernel.signals number Compute (e j) y [] ∷ []
  same_writes number (Delay y x initial) within = let e = below y (target (Delay y x initial) within) in λ j. writing kernel.signals number DelayRead (e j) y [] ∷ []
  same_writes number (Sync x y) within = refl
  same_writes number (Default y u v) within =
      let at_u = left_operand u v (operands (Default y u v) within) in
      let at_v = right_operand u v (operands (Default y u v) within) in
      λ j. writing kernel.signals number Left (at_u j) y (u ∷ []) ∷ writing kernel.signals number Right (without (at_v j) (at_u j)) y (v ∷ []) ∷ []

  same_stores : (number : EqId) (form : Form) → form_within (length kernel.signals) form ≡ true → stores_of kernel.signals p number form ≡ stores_of kernel.signals q number form
  same_stores number (Delay y x initial) within =
      let e = below x (and_parts (is_below (length kernel.signals) x) true (operands (Delay y x initial) within)).0 in
      λ j. record { kind = Store number; guard = e j; writes = None; reads = x ∷ []; equation = Some number; cluster = cluster_at kernel.signals y } ∷ []
  same_stores number _ within = refl

  same_each : (f g : EqId → Form → List Operation) → ((number : EqId) (form : Form) → form_within (length kernel.signals) form ≡ true → f number form ≡ g number form)
      → (n : ℕ) (equations : List Equation) → AllPass (λ equation. form_within (length kernel.signals) equation.form) equations → of_each f n equations ≡ of_each g n equations
  same_each f g each n [] within = refl
  same_each f g each n (equation ∷ equations) within =
      let first = each (equation_id n) equation.form (All-head (λ (e : Equation). form_within (length kernel.signals) e.form ≡ true) equation equations within) in
      let rest = same_each f g each (n + 1) equations (All-tail (λ (e : Equation). form_within (length kernel.signals) e.form ≡ true) equation equations within) in
      λ j. first j ++ rest j

  same_reads : (a n : ℕ) → a + n ≤ length kernel.signals
      → map (λ number. read_of kernel.signals p (signal_id number)) (range_with_len a n) ≡ map (λ number. read_of kernel.signals q (signal_id number)) (range_with_len a n)
  same_reads a zero le = refl
  same_reads a (suc n) le =
      let first = same (signal_id a) (omega (arith, le)) in
      let rest = same_reads (a + 1) n (omega (arith, le)) in
      λ j. record { kind = Read (signal_id a); guard = first j; writes = Some (signal_id a); reads = []; equation = None; cluster = cluster_at kernel.signals (signal_id a) } ∷ rest j

  pub same_operations : IsValid kernel → operations_of kernel p ≡ operations_of kernel q
  same_operations valid =
      let inputs = same_reads 0 kernel.inputs (omega (arith, valid.parts.interface, valid.parts.declared)) in
      let writes = same_each (writes_of kernel.signals p) (writes_of kernel.signals q) same_writes 0 kernel.equations valid.equations.within in
      let stores = same_each (stores_of kernel.signals p) (stores_of kernel.signals q) same_stores 0 kernel.equations valid.equations.within in
      λ j. inputs j ++ writes j ++ stores j

-- a kernel has its operations once
pub operations_once : (kernel : Kernel) → IsValid kernel → (conditions other_conditions : List SigId) (operations other_operations : List Operation)
    → HasOperations kernel conditions operations → HasOperations kernel other_conditions other_operations → (conditions ≡ other_conditions) × (operations ≡ other_operations)
operations_once kernel valid conditions other_conditions operations other_operations one other =
    let order : conditions ≡ other_conditions = conditions_once kernel conditions other_conditions one.order other.order in
    let same : (x : SigId) → x.0 < length kernel.signals → one.presence x ≡ other.presence x = λ x within.
    function_once kernel conditions one.clocks one.order x.0 (one.presence x) (other.presence x) (one.functions x.0 within)
    (subst (λ cs. IsClockFunction kernel cs x.0 (other.presence x)) (sym order) (other.functions x.0 within)) in
    (order, one.are ∙ same_operations kernel one.presence other.presence same valid ∙ sym other.are)
