-- What an operation comes to, and what it leaves.
use Rattle.std.specs.Prelude.{◌+◌, ◌∷◌, if◌then◌else◌}
use Rattle.sig_model.specs.Prelude.{ℕ, ℤ, pos, List, [], map, slice_get, slice_index_or, Option, None, Some, option_and_then, Function, EqId, SigId, function_of, target_of, Equation, Form, Fun, Delay, When, WhenConst, Default, Sync, Event, Operand, Sig, Const, Kernel, Cause, Exhausted, Overflow, ZeroDivisor, Op, OpKind, Read, Compute, Left, Right, DelayRead, Store}
use Rattle.sig_model.specs.Actors.{Actor, Registers, value_in, with_at, with_signal}
use Rattle.sig_model.specs.Results.{divides_by_zero, has_64_bits, result_of}

-- a value, or the reason why there is none
pub data Outcome : Type 0 where
  Gives : ℤ → Outcome
  Faults : Cause → Outcome

-- the next value of an input, of which so many were read
abbrev pub next_of : SigId → Option ℤ → Outcome
next_of x None = Faults (Exhausted x)
next_of x (Some v) = Gives v

-- a result, where it has 64 bits
abbrev pub bounded : EqId → ℤ → Outcome
bounded e v = if has_64_bits v then Gives v else Faults (Overflow e)

-- a function of values, where its divisor is not 0 and its result has 64 bits
abbrev pub computed : EqId → Function → List ℤ → Outcome
computed e function values =
    if divides_by_zero function values then Faults (ZeroDivisor e) else bounded e (result_of function values)

abbrev pub operand_in : Registers → Operand → ℤ
operand_in registers (Sig x) = value_in registers x
operand_in registers (Const constant) = constant

-- the value of the first of some signals
abbrev pub first_in : Registers → List SigId → ℤ
first_in registers [] = pos 0
first_in registers (x ∷ xs) = value_in registers x

-- what is computed by an equation of this form
abbrev pub computed_by : Registers → EqId → Form → Outcome
computed_by registers e (Fun y op operands) = computed e (function_of op) (map (operand_in registers) operands)
computed_by registers e (When y x b) = Gives (value_in registers x)
computed_by registers e (WhenConst y constant b) = Gives constant
computed_by registers e (Event y x) = Gives (pos 1)
computed_by registers e (Default y u v) = Gives (pos 0)
computed_by registers e (Delay y x initial) = Gives (pos 0)
computed_by registers e (Sync x y) = Gives (pos 0)

abbrev pub computed_at : Registers → EqId → Option Equation → Outcome
computed_at registers e None = Gives (pos 0)
computed_at registers e (Some equation) = computed_by registers e equation.form

abbrev pub computed_for : Kernel → Registers → Option EqId → Outcome
computed_for kernel registers None = Gives (pos 0)
computed_for kernel registers (Some e) = computed_at registers e (slice_get kernel.equations e.0)

-- what is remembered for the delay that defines a signal
abbrev pub memory_of : Actor → Option SigId → ℤ
memory_of actor None = pos 0
memory_of actor (Some y) = actor.memories y.0

-- What an operation of an actor comes to. A read gives the next value of its input, the read of a delay what is remembered,
-- and all but these and a computation hand on what they read.
abbrev pub outcome_by : Kernel → List (List ℤ) → Actor → Op → OpKind → Outcome
outcome_by kernel flows actor op (Read x) = next_of x (slice_get (slice_index_or flows x.0 []) (actor.taken x.0))
outcome_by kernel flows actor op Compute = computed_for kernel actor.registers op.eq
outcome_by kernel flows actor op Left = Gives (first_in actor.registers op.reads)
outcome_by kernel flows actor op Right = Gives (first_in actor.registers op.reads)
outcome_by kernel flows actor op DelayRead = Gives (memory_of actor op.writes)
outcome_by kernel flows actor op (Store e) = Gives (first_in actor.registers op.reads)

abbrev pub outcome : Kernel → List (List ℤ) → Actor → Op → Outcome
outcome kernel flows actor op = outcome_by kernel flows actor op op.kind

-- the signal that the equation of a number defines
abbrev pub defined_by : Kernel → EqId → Option SigId
defined_by kernel e = option_and_then (λ equation. target_of equation.form) (slice_get kernel.equations e.0)

-- the signal of the delay into whose memory an operation stores
abbrev pub remembers : Kernel → OpKind → Option SigId
remembers kernel (Store e) = defined_by kernel e
remembers kernel (Read x) = None
remembers kernel Compute = None
remembers kernel Left = None
remembers kernel Right = None
remembers kernel DelayRead = None

-- how many values were read of each input, behind an operation
abbrev pub taken_by : OpKind → (ℕ → ℕ) → ℕ → ℕ
taken_by (Read x) taken = with_at x.0 (taken x.0 + 1) taken
taken_by (Store e) taken = taken
taken_by Compute taken = taken
taken_by Left taken = taken
taken_by Right taken = taken
taken_by DelayRead taken = taken

-- An actor behind an operation that came to a value: it is in the register of the signal that is written, or in the memory
-- of the delay.
abbrev pub operated : Kernel → Op → ℤ → Actor → Actor
operated kernel op v actor = record actor {
  registers = with_signal op.writes (Some v) actor.registers;
  memories = with_signal (remembers kernel op.kind) v actor.memories;
  taken = taken_by op.kind actor.taken;
}
