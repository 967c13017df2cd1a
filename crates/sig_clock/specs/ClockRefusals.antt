-- Why a kernel has no clocks, with the signals that are named, in the order in which the reasons are tried.
use Rattle.std.specs.Prelude.{◌≡◌, ◌≤◌}
use Rattle.sig_clock.specs.Prelude.{ℕ, true, false, Kernel}
use Rattle.sig_clock.specs.Reactions.{Reaction, Speaks, is_present}
use Rattle.sig_clock.specs.Conditions.{is_condition}
use Rattle.sig_clock.specs.Layers.{HasLayer, IsDead, IsRoot, IsSignal, IsSolved, IsEarlier, NeverEnters}
use Rattle.sig_clock.specs.Pinned.{IsFree, IsPinned}

-- the number is the least one of which a statement holds
pub record IsLeast (P : ℕ → Type 0) (number : ℕ) : Type 0 where
  pub holds : P number
  pub least : (other : ℕ) → P other → number ≤ other

-- some reaction is possible beside the silent one
abbrev pub IsAlive : Kernel → Type 0
IsAlive kernel = (reaction : Reaction) × Speaks kernel reaction

-- some reaction has the signal
abbrev pub IsPossible : Kernel → ℕ → Type 0
IsPossible kernel signal = (reaction : Reaction) × Speaks kernel reaction × (is_present reaction signal ≡ true)

-- some reaction has the signal and not another one
abbrev pub IsPossibleWithout : Kernel → ℕ → ℕ → Type 0
IsPossibleWithout kernel other signal =
    (reaction : Reaction) × Speaks kernel reaction × (is_present reaction signal ≡ true) × (is_present reaction other ≡ false)

abbrev pub HasNoRoot : Kernel → Type 0
HasNoRoot kernel = (signal : ℕ) → IsRoot kernel signal → ⊥

-- there is no root: x is the least signal of all reactions, and y that of the reactions without x
pub record IsMissingRoot (kernel : Kernel) (x y : ℕ) : Type 0 where
  pub none : HasNoRoot kernel
  pub first : IsLeast (IsPossible kernel) x
  pub second : IsLeast (IsPossibleWithout kernel x) y

abbrev pub HasRoot : Kernel → Type 0
HasRoot kernel = (signal : ℕ) × IsRoot kernel signal

abbrev pub IsOpen : Kernel → ℕ → Type 0
IsOpen kernel signal = IsSignal kernel signal × NeverEnters kernel signal

-- the clock of a signal is not determined, and it is the least such signal
pub record IsUnsolved (kernel : Kernel) (x : ℕ) : Type 0 where
  pub root : HasRoot kernel
  pub first : IsLeast (IsOpen kernel) x

abbrev pub AreSolved : Kernel → Type 0
AreSolved kernel = (signal : ℕ) → IsSignal kernel signal → IsSolved kernel signal

-- a condition is pinned, and no earlier one is
pub record IsFirstPinned (kernel : Kernel) (b : ℕ) : Type 0 where
  pub root : HasRoot kernel
  pub solved : AreSolved kernel
  pub layer : ℕ
  pub has : HasLayer kernel b layer
  pub pinned : IsPinned kernel b
  pub first : (other : ℕ) → IsEarlier kernel other b → IsPinned kernel other → ⊥

-- none of these reasons: some reaction is possible, there is a root, each signal is solved, and each condition is
-- free, so none is pinned
pub record HasClocks (kernel : Kernel) : Type 0 where
  pub alive : IsAlive kernel
  pub root : HasRoot kernel
  pub solved : AreSolved kernel
  pub free : (condition : ℕ) → is_condition kernel condition ≡ true → IsFree kernel condition
