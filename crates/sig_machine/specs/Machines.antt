-- The actor that a machine is: its cells are those of the signals, then those of the delays, then constants.
use Rattle.std.specs.Prelude.{◌≡◌, ◌≤◌, ◌<◌, ◌+◌, if◌then◌else◌}
use Rattle.sig_machine.specs.Prelude.{ℕ, ℤ, pos, false, List, length, nat_lt, slice_get, slice_index_or, None, Some, PlanView, Actor, Registers}
pub use Rattle.sig_cells.specs.Instructions.{cell, stamped}
use Rattle.sig_machine.specs.declared.lowered.Lowered.{Lowered}
use Rattle.sig_machine.specs.declared.machine.Machine.{Machine}

-- what each signal is in the instant
abbrev pub registers_of : Machine → Registers
registers_of m signal =
    if nat_lt signal m.signals then stamped m.instant (slice_get m.stamps.items signal) (cell m.cells.items signal) else None

-- what is remembered for the delay that defines a signal, by the cells behind those of so many signals
abbrev pub memories_at : ℕ → List ℤ → ℕ → ℤ
memories_at signals cells signal = if nat_lt signal signals then cell cells (signals + signal) else pos 0

abbrev pub memories_of : Machine → ℕ → ℤ
memories_of m = memories_at m.signals m.cells.items

abbrev pub taken_of : Machine → ℕ → ℕ
taken_of m input = slice_index_or m.taken.items input 0

-- the actor that has what the machine has, and stands before a step
abbrev pub actor_at : Machine → ℕ → Actor
actor_at m step = record {
  instant = m.instant;
  step = step;
  registers = registers_of m;
  memories = memories_of m;
  taken = taken_of m;
  ended = false;
}

-- the cells behind those of signals and delays hold the constants
abbrev pub HaveConstants : ℕ → List ℤ → List ℤ → Type 0
HaveConstants signals constants cells = (number : ℕ) → signals + signals ≤ number → number < length constants → cell cells number ≡ cell constants number

-- the cell of each signal that is absent in the instant holds 0
abbrev pub AbsentAreZero : Machine → Type 0
AbsentAreZero m = (signal : ℕ) → signal < m.signals → registers_of m signal ≡ None → cell m.cells.items signal ≡ pos 0

-- A machine has so many signals and these constants, and is one over these flows.
pub record IsMachineFor (count : ℕ) (held : List ℤ) (flows : List (List ℤ)) (m : Machine) : Type 0 where
  pub signals : m.signals ≡ count
  pub cells : length m.cells.items ≡ length held
  pub stamps : length m.stamps.items ≡ length held
  pub constants : HaveConstants m.signals held m.cells.items
  pub inputs : length m.taken.items ≡ length flows
  -- no cell was written after the instant
  pub past : (number stamp : ℕ) → slice_get m.stamps.items number ≡ Some stamp → stamp ≤ m.instant

-- A machine is one of a plan in this form, over these flows.
abbrev pub IsMachineOf : PlanView → Lowered → List (List ℤ) → Machine → Type 0
IsMachineOf plan lowered flows m = IsMachineFor (length plan.kernel.signals) lowered.cells.items flows m
