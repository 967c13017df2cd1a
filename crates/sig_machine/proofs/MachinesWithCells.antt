-- Machines that have given cells.
use mathlib.Core.HLevel.{is_prop→PathP}
use native.Mathlib.Bridge.{le_prop}
use native.Mathlib.Nat.{ℕ_set}
use Rattle.std.specs.Prelude.{Vec}
use Rattle.sig_machine.proofs.Common.{◌≤◌, ◌≡◌, ◌∙◌, ℕ, ℤ, false, List, length, refl, sym, ap, slice_index_or, with_items, with_items_is, Actor, Cells, Machine, Does, GoesTo, Instruction, zero, suc, arith, ◌+◌, actor_at, cells_in, cells_of, memories_at, registers_in, registers_of}

-- a machine has these cells, in this instant
pub record HasCells (count at : ℕ) (s : Cells) (m : Machine) : Type 0 where
  pub signals : m.signals ≡ count
  pub instant : m.instant ≡ at
  pub cells : m.cells.items ≡ s.values
  pub stamps : m.stamps.items ≡ s.stamps
  pub taken : m.taken.items ≡ s.taken

-- the actor of all machines that have these
abbrev actor_by : ℕ → ℕ → List ℤ → List ℕ → List ℕ → ℕ → Actor
actor_by count at values stamps taken step = record {
  instant = at;
  step = step;
  registers = registers_in count at (cells_of values stamps taken);
  memories = memories_at count values;
  taken = λ input. slice_index_or taken input 0;
  ended = false;
}

module _ (count at : ℕ) (s : Cells) where
  pub has_registers : (m : Machine) → HasCells count at s m → registers_of m ≡ registers_in count at s
  has_registers m has =
      ap (λ (n : ℕ). registers_in n m.instant (cells_in m)) has.signals
      ∙ ap (λ (n : ℕ). registers_in count n (cells_in m)) has.instant
      ∙ ap (λ (xs : List ℤ). registers_in count at (cells_of xs m.stamps.items m.taken.items)) has.cells
      ∙ ap (λ (xs : List ℕ). registers_in count at (cells_of s.values xs m.taken.items)) has.stamps

  has_actor : (m : Machine) → HasCells count at s m → (step : ℕ) → actor_at m step ≡ actor_by count at s.values s.stamps s.taken step
  has_actor m has step =
      ap (λ (n : ℕ). actor_by n m.instant m.cells.items m.stamps.items m.taken.items step) has.signals
      ∙ ap (λ (n : ℕ). actor_by count n m.cells.items m.stamps.items m.taken.items step) has.instant
      ∙ ap (λ (xs : List ℤ). actor_by count at xs m.stamps.items m.taken.items step) has.cells
      ∙ ap (λ (xs : List ℕ). actor_by count at s.values xs m.taken.items step) has.stamps
      ∙ ap (λ (xs : List ℕ). actor_by count at s.values s.stamps xs step) has.taken

  pub one_actor : (m n : Machine) → HasCells count at s m → HasCells count at s n → (step : ℕ) → actor_at m step ≡ actor_at n step
  one_actor m n has_m has_n step = has_actor m has_m step ∙ sym (has_actor n has_n step)

-- a machine with other cells, as many as it has
abbrev pub with_cells : Machine → Cells → Machine
with_cells m s = record {
  signals = m.signals;
  instant = m.instant;
  cells = with_items m.cells s.values;
  stamps = with_items m.stamps s.stamps;
  taken = with_items m.taken s.taken;
}

-- as many as a machine has
pub record AreAsMany (m : Machine) (s : Cells) : Type 0 where
  pub values : length s.values ≡ length m.cells.items
  pub stamps : length s.stamps ≡ length m.stamps.items
  pub taken : length s.taken ≡ length m.taken.items

pub has_these : (m : Machine) (s : Cells) → AreAsMany m s → HasCells m.signals m.instant s (with_cells m s)
has_these m s many = record {
  signals = refl;
  instant = refl;
  cells = with_items_is m.cells s.values (many.values ∙ sym m.cells.ok.0);
  stamps = with_items_is m.stamps s.stamps (many.stamps ∙ sym m.stamps.ok.0);
  taken = with_items_is m.taken s.taken (many.taken ∙ sym m.taken.ok.0);
}

-- ---- as it was

pub same_items : {X Z : Type 0} (v : Vec X Z) (xs : List X) → xs ≡ v.items → with_items v xs ≡ v
same_items {X} {Z} v xs same = λ j. let w : Vec X Z = record {
  ptr = v.ptr;
  len = v.len;
  cap = v.cap;
  alloc = v.alloc;
  items = items j;
  ok = is_prop→PathP (λ i. (v.len ≡ length (items i)) × (v.len ≤ v.cap)) (λ i x y k. (ℕ_set _ _ x.0 y.0 k, le_prop x.1 y.1 k)) (with_items v xs).ok v.ok j;
  small = v.small;
} in w where
  items : (with_items v xs).items ≡ v.items
  items = with_items_is v xs (ap length same ∙ sym v.ok.0) ∙ same

-- a machine with the cells that it has
pub same_machine : (m : Machine) (s : Cells) → s.values ≡ m.cells.items → s.stamps ≡ m.stamps.items → s.taken ≡ m.taken.items → with_cells m s ≡ m
same_machine m s cells stamps taken = λ j. let same : Machine = record {
  signals = m.signals;
  instant = m.instant;
  cells = same_items m.cells s.values cells j;
  stamps = same_items m.stamps s.stamps stamps j;
  taken = same_items m.taken s.taken taken j;
} in same

-- where a row of none is done, the cells are as they were
pub nothing_done : (instructions : List Instruction) (flows : List (List ℤ)) (instant from to : ℕ) (s t : Cells) → GoesTo instructions flows instant from to s t → to ≡ from → t ≡ s
nothing_done instructions flows instant from to s t goes none = by goes.count goes.ends goes.does where
  by : (n : ℕ) → from + n ≡ to → Does instructions flows instant from n s t → t ≡ s
  by zero ends does = does
  by (suc n) ends does = absurd (omega (arith, ends, none))
