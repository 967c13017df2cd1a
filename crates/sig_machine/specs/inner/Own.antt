-- The signals that an actor writes, and what is kept of their cells.
use Rattle.std.specs.Prelude.{◌≡◌, ◌≤◌, ◌<◌, ◌⊎◌, ◌&&◌, ◌||◌, not}
use Rattle.sig_machine.specs.Prelude.{ℕ, ℤ, Bool, true, pos, List, length, nat_lt, slice_get, Some}
use Rattle.sig_machine.specs.declared.own.Own.{Own}
use Rattle.sig_cells.specs.Instructions.{cell}
use Rattle.sig_cells.specs.declared.instruction.Instruction.{Instruction}

-- whether a signal is among those that an actor writes
abbrev pub is_own : Own → ℕ → Bool
is_own own signal = nat_lt signal own.head || (not (nat_lt signal own.first) && nat_lt signal own.end)

-- all of them are below so many
abbrev pub AreOwnBelow : ℕ → Own → Type 0
AreOwnBelow count own = (own.head ≤ count) × (own.end ≤ count)

-- the signals that instructions write are among them
abbrev pub WritesOwn : Own → ℕ → List Instruction → Type 0
WritesOwn own signals instructions = (place : ℕ) (instruction : Instruction) → slice_get instructions place ≡ Some instruction
    → instruction.target < signals → is_own own instruction.target ≡ true

-- The cells from one on and below another one hold 0, and what they held is kept; all others, and what is kept of them, are as
-- before.
pub record AreKept (from to : ℕ) (cells last after kept : List ℤ) : Type 0 where
  pub count : length after ≡ length cells
  pub kept_count : length kept ≡ length last
  pub inside : (number : ℕ) → from ≤ number → number < to → (cell after number ≡ pos 0) × (cell kept number ≡ cell cells number)
  pub outside : (number : ℕ) → (number < from) ⊎ (to ≤ number) → (cell after number ≡ cell cells number) × (cell kept number ≡ cell last number)
