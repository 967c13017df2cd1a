-- What the machine of an actor has in its cells.
use Rattle.std.specs.Prelude.{◌≡◌, ◌≤◌, ◌<◌}
use Rattle.sig_machine.specs.Prelude.{ℕ, ℤ, true, false, pos, List, length}
use Rattle.sig_machine.specs.ActorMachines.{is_kept}
use Rattle.sig_machine.specs.declared.actor.ActorMachine.{ActorMachine}
use Rattle.sig_machine.specs.declared.machine.Machine.{Machine}
use Rattle.sig_cells.specs.Instructions.{Cells, cell, cells_of}

-- the cells that a machine has
abbrev pub cells_in : Machine → Cells
cells_in m = cells_of m.cells.items m.stamps.items m.taken.items

-- the cells of so many signals hold 0
abbrev pub AreZero : ℕ → List ℤ → Type 0
AreZero signals cells = (signal : ℕ) → signal < signals → cell cells signal ≡ pos 0

-- cells with which an instant begins behind another one: those of so many signals hold 0, and all others what they held last
pub record Begins (signals : ℕ) (last cells : List ℤ) : Type 0 where
  pub count : length cells ≡ length last
  pub zero : AreZero signals cells
  pub others : (number : ℕ) → signals ≤ number → cell cells number ≡ cell last number

-- The cells of the signals that an actor writes hold 0, and what they held is kept; all others are as before.
pub record KeepsOwn (old new : ActorMachine) : Type 0 where
  pub count : length new.machine.cells.items ≡ length old.machine.cells.items
  pub kept_count : length new.last.items ≡ length old.last.items
  pub own : (signal : ℕ) → is_kept old signal ≡ true
      → (cell new.machine.cells.items signal ≡ pos 0) × (cell new.last.items signal ≡ cell old.machine.cells.items signal)
  pub others : (signal : ℕ) → is_kept old signal ≡ false → cell new.machine.cells.items signal ≡ cell old.machine.cells.items signal

-- nothing but the cells changed
pub record IsOnCells (old new : ActorMachine) : Type 0 where
  pub machine : new ≡ record old { machine = new.machine }
  pub signals : new.machine.signals ≡ old.machine.signals
  pub instant : new.machine.instant ≡ old.machine.instant
