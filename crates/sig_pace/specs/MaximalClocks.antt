-- The maximal clocks of a kernel: those that lie below no other clock. A kernel that has a root has one of them.
use Rattle.std.specs.Prelude.{◌≡◌, ◌≤◌, ◌<◌, ◌↔◌}
use Rattle.sig_pace.specs.Prelude.{ℕ, true, List, slice_get, Some, Contains, IsPossible, IsSignal, Reaction, Speaks, is_present, Kernel}

-- each reaction that has x has y
abbrev pub IsBelow : Kernel → ℕ → ℕ → Type 0
IsBelow kernel x y = (reaction : Reaction) → Speaks kernel reaction → is_present reaction x ≡ true → is_present reaction y ≡ true

-- two signals of one clock
pub record AreOfOneClock (kernel : Kernel) (x y : ℕ) : Type 0 where
  pub up : IsBelow kernel x y
  pub down : IsBelow kernel y x

-- some reaction has the signal, and it is below no signal of another clock
pub record IsMaximal (kernel : Kernel) (x : ℕ) : Type 0 where
  pub is : IsSignal kernel x
  pub possible : IsPossible kernel x
  pub top : (y : ℕ) → IsSignal kernel y → IsBelow kernel x y → IsBelow kernel y x

-- a signal of a maximal clock, of which none has a lesser number
pub record IsLeastMaximal (kernel : Kernel) (x : ℕ) : Type 0 where
  pub maximal : IsMaximal kernel x
  pub least : (y : ℕ) → IsSignal kernel y → AreOfOneClock kernel x y → x ≤ y

-- the least signals of the maximal clocks, each once, by number
pub record AreMaximalClocks (kernel : Kernel) (least : List ℕ) : Type 0 where
  pub all : (x : ℕ) → Contains least x ↔ IsLeastMaximal kernel x
  pub order : (i j x y : ℕ) → i < j → slice_get least i ≡ Some x → slice_get least j ≡ Some y → x < y
