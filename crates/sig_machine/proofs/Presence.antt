-- Instructions where signals that they read may be absent: as the cells of those hold 0, they come to what they come to on a machine
-- in which each of those is written.
use Rattle.sig_machine.proofs.Common.{◌≡◌, ◌<◌, ◌≤◌, ◌∙◌, if◌then◌else◌, Bool, true, false, ℕ, zero, suc, ℤ, pos, List, [], ◌∷◌, length, map, nat_lt, replicate, slice_get, Option, None, Some, refl, sym, ap, arith, eq-eqb, length-replicate, ltb-true, ltb-false, unwrap_or, Contains, EqId, SigId, Equation, Form, Fun, Delay, When, WhenConst, Default, Sync, Event, Operand, Sig, Const, Kernel, Op, OpKind, Read, Compute, Left, Right, DelayRead, Store, Actor, Gives, computed, computed_at, computed_by, computed_for, first_in, function_of, memory_of, operand_in, outcome, outcome_by, value_in, IsWorkOf, HaveConstants, actor_at, cell, registers_of, stamped, as_named, came_to, Work, Machine, AbsentAreZero, is_some}
use Rattle.sig_machine.proofs.LeftValues.{register_value}
use Rattle.sig_machine.proofs.Lists.{same_Some}

all_one : (n v k : ℕ) → k < n → slice_get (replicate n v) k ≡ Some v
all_one zero v k less = absurd (omega (arith, less))
all_one (suc n) v zero less = refl
all_one (suc n) v (suc k) less = all_one n v k (omega (arith, less))

by_less : (P : Bool → Type 0) (a b : ℕ) → (a < b → P true) → (b ≤ a → P false) → P (nat_lt a b)
by_less P a b less most = at (nat_lt a b) refl where
  at : (x : Bool) → nat_lt a b ≡ x → P x
  at true e = less (ltb-true a b e)
  at false e = most (ltb-false a b e)

stamped_now : (k : ℕ) (w : ℤ) → stamped k (Some k) w ≡ Some w
stamped_now k w = ap (λ b. if b then Some w else None) (eq-eqb k k refl)

-- ---- outcomes of actors that have the same values

module _ (kernel : Kernel) (flows : List (List ℤ)) (a b : Actor) (values : (x : SigId) → value_in a.registers x ≡ value_in b.registers x)
    (memories : a.memories ≡ b.memories) (taken : a.taken ≡ b.taken) where
  operand : (o : Operand) → operand_in a.registers o ≡ operand_in b.registers o
  operand (Sig x) = values x
  operand (Const v) = refl

  operands : (os : List Operand) → map (operand_in a.registers) os ≡ map (operand_in b.registers) os
  operands [] = refl
  operands (o ∷ os) = ap (λ v. v ∷ map (operand_in a.registers) os) (operand o) ∙ ap (λ vs. operand_in b.registers o ∷ vs) (operands os)

  firsts : (xs : List SigId) → first_in a.registers xs ≡ first_in b.registers xs
  firsts [] = refl
  firsts (x ∷ xs) = values x

  by_form : (e : EqId) (form : Form) → computed_by a.registers e form ≡ computed_by b.registers e form
  by_form e (Fun y op os) = ap (computed e (function_of op)) (operands os)
  by_form e (When y x c) = ap Gives (values x)
  by_form e (WhenConst y v c) = refl
  by_form e (Event y x) = refl
  by_form e (Default y u v) = refl
  by_form e (Delay y x i) = refl
  by_form e (Sync x y) = refl

  by_equation : (e : EqId) (o : Option Equation) → computed_at a.registers e o ≡ computed_at b.registers e o
  by_equation e None = refl
  by_equation e (Some equation) = by_form e equation.form

  by_number : (o : Option EqId) → computed_for kernel a.registers o ≡ computed_for kernel b.registers o
  by_number None = refl
  by_number (Some e) = by_equation e (slice_get kernel.equations e.0)

  memory : (o : Option SigId) → memory_of a o ≡ memory_of b o
  memory None = refl
  memory (Some y) = ap (λ f. f y.0) memories

  pub outcome_same : (op : Op) (kind : OpKind) → outcome_by kernel flows a op kind ≡ outcome_by kernel flows b op kind
  outcome_same op (Read x) = ap (λ f. outcome_by kernel flows (record a { taken = f }) op (Read x)) taken
  outcome_same op Compute = by_number op.eq
  outcome_same op Left = ap Gives (firsts op.reads)
  outcome_same op Right = ap Gives (firsts op.reads)
  outcome_same op DelayRead = ap Gives (memory op.writes)
  outcome_same op (Store e) = ap Gives (firsts op.reads)

-- ---- a machine in which each signal is written

module _ (m : Machine) (signals : m.signals ≤ length m.stamps.items) (cleared : AbsentAreZero m) where
  abbrev filled : Machine
  filled = record m {
    stamps = record m.stamps { items = replicate (length m.stamps.items) m.instant; ok = (m.stamps.ok.0 ∙ sym (length-replicate (length m.stamps.items) m.instant), m.stamps.ok.1) };
  }

  register_filled : (signal : ℕ) → signal < m.signals → registers_of filled signal ≡ Some (cell m.cells.items signal)
  register_filled signal below =
      by_less (λ b. (if b then stamped m.instant (slice_get filled.stamps.items signal) (cell m.cells.items signal) else None) ≡ Some (cell m.cells.items signal)) signal m.signals
      (λ less. ap (λ o. stamped m.instant o (cell m.cells.items signal)) (all_one (length m.stamps.items) m.instant signal (omega (arith, below, signals))) ∙ stamped_now m.instant (cell m.cells.items signal))
      (λ most. absurd (omega (arith, below, most)))

  -- what a register has, or 0, is what its cell holds
  register_given : (signal : ℕ) → signal < m.signals → unwrap_or (registers_of m signal) (pos 0) ≡ cell m.cells.items signal
  register_given signal below = by (registers_of m signal) refl where
    by : (seen : Option ℤ) → registers_of m signal ≡ seen → unwrap_or seen (pos 0) ≡ cell m.cells.items signal
    by None is = sym (cleared signal below is)
    by (Some v) is = same_Some v (cell m.cells.items signal) (sym is ∙ register_value m signal (ap is_some is))

  no_register : (any : Machine) (signal : ℕ) → any.signals ≤ signal → registers_of any signal ≡ None
  no_register any signal most =
      by_less (λ b. (if b then stamped any.instant (slice_get any.stamps.items signal) (cell any.cells.items signal) else None) ≡ None) signal any.signals
      (λ less. absurd (omega (arith, less, most))) (λ more. refl)

  value_filled : (x : SigId) → value_in (registers_of filled) x ≡ value_in (registers_of m) x
  value_filled x =
      by_less (λ b. value_in (registers_of filled) x ≡ value_in (registers_of m) x) x.0 m.signals
      (λ less. ap (λ o. unwrap_or o (pos 0)) (register_filled x.0 less) ∙ sym (register_given x.0 less))
      (λ most. ap (λ o. unwrap_or o (pos 0)) (no_register filled x.0 most ∙ sym (no_register m x.0 most)))

  -- an instruction that is for an operation comes to what that comes to
  pub outcome_here : (kernel : Kernel) (constants : List ℤ) (op : Op) (work : Work) → IsWorkOf kernel constants op work → m.signals ≡ length kernel.signals
      → HaveConstants m.signals constants m.cells.items → ((x : SigId) → Contains op.reads x → x.0 < length kernel.signals) → (flows : List (List ℤ)) (step : ℕ)
      → as_named op.eq (came_to flows m work) ≡ outcome kernel flows (actor_at m step) op
  outcome_here kernel constants op work is all have within flows step =
      is.value flows filled all have (λ x reads. let below = within x reads in register_filled x.0 (omega (arith, below, all))) step
      ∙ outcome_same kernel flows (actor_at filled step) (actor_at m step) value_filled refl refl op op.kind
