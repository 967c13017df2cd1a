-- The state that a machine is.
use Rattle.std.specs.Prelude.{◌≡◌, ◌<◌, ◌≤◌, ◌==◌, ◌∷◌, if◌then◌else◌}
use Rattle.sig_exec.specs.Prelude.{ℕ, ℤ, List, [], length, drop, take, slice_get, slice_index_or, None, Some, Instant, Seen, ImageView, State}
use Rattle.sig_cells.specs.Instructions.{Cells, cells_of}
use Rattle.sig_exec.specs.inner.Lowerings.{bound_of, cell}
use Rattle.sig_exec.specs.declared.lowered.ImageInstructions.{ImageInstructions}
use Rattle.sig_exec.specs.declared.machine.ImageMachine.{ImageMachine}

-- what a cell with a stamp shows of an instant: nothing, where it was written in another one
abbrev pub shown : ℕ → ℕ → ℤ → Seen
shown instant stamp value = if stamp == instant then Some value else None

abbrev pub shown_all : ℕ → List ℕ → List ℤ → List Seen
shown_all instant [] cells = []
shown_all instant (stamp ∷ stamps) [] = []
shown_all instant (stamp ∷ stamps) (value ∷ cells) = shown instant stamp value ∷ shown_all instant stamps cells

-- what is left of flows of which so many values each were taken
abbrev pub left_of : List ℕ → List (List ℤ) → List (List ℤ)
left_of [] flows = []
left_of (taken ∷ counts) [] = []
left_of (taken ∷ counts) (flow ∷ flows) = drop taken flow ∷ left_of counts flows

-- ---- by cells, in an instant

-- what each signal is
abbrev pub registers_on : ImageView → ℕ → Cells → Instant
registers_on image instant s = take (length image.signals) (shown_all instant s.stamps s.values)

-- The state that has what the cells have.
abbrev pub state_on : ImageView → List (List ℤ) → ℕ → Cells → State
state_on image flows instant s = record {
  registers = registers_on image instant s;
  memories = take (length image.memories) (drop (length image.signals) s.values);
  flows = left_of s.taken flows;
}

-- what the signal of a number is
abbrev pub seen_on : ℕ → Cells → ℕ → Seen
seen_on instant s x = shown instant (slice_index_or s.stamps x 0) (cell s.values x)

-- the cells behind those of signals and memories hold the constants
abbrev pub HaveConstants : ImageView → List ℤ → List ℤ → Type 0
HaveConstants image constants cells = (number : ℕ) → bound_of image ≤ number → number < length constants → cell cells number ≡ cell constants number

-- Cells are those of an image in this form, over these flows.
pub record AreCellsOf (image : ImageView) (lowered : ImageInstructions) (flows : List (List ℤ)) (instant : ℕ) (s : Cells) : Type 0 where
  pub cells : length s.values ≡ length lowered.cells.items
  pub stamps : length s.stamps ≡ length lowered.cells.items
  pub constants : HaveConstants image lowered.cells.items s.values
  pub inputs : length s.taken ≡ length flows
  -- no cell was written after the instant
  pub past : (number stamp : ℕ) → slice_get s.stamps number ≡ Some stamp → stamp ≤ instant

-- each signal has its cell and its stamp
pub record HaveSignals (image : ImageView) (s : Cells) : Type 0 where
  pub cells : length image.signals ≤ length s.values
  pub stamps : length image.signals ≤ length s.stamps

-- ---- by a machine, in its instant

abbrev pub cells_in : ImageMachine → Cells
cells_in m = cells_of m.cells.items m.stamps.items m.taken.items

abbrev pub registers_of : ImageView → ImageMachine → Instant
registers_of image m = registers_on image m.instant (cells_in m)

abbrev pub state_of : ImageView → List (List ℤ) → ImageMachine → State
state_of image flows m = state_on image flows m.instant (cells_in m)

abbrev pub seen_in : ImageMachine → ℕ → Seen
seen_in m x = seen_on m.instant (cells_in m) x

-- a machine is one of an image
abbrev pub IsMachineOf : ImageView → ImageInstructions → List (List ℤ) → ImageMachine → Type 0
IsMachineOf image lowered flows m = AreCellsOf image lowered flows m.instant (cells_in m)

abbrev pub HasCells : ImageView → ImageMachine → Type 0
HasCells image m = HaveSignals image (cells_in m)
