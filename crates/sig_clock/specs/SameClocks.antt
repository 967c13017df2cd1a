-- Clock classes: the smallest equivalence that relates the signals of one function, delay, synchronisation or
-- clock of a signal.
use Rattle.std.specs.Prelude.{◌≡◌, ◌≤◌, ◌<◌, ◌∷◌}
use Rattle.sig_clock.specs.Prelude.{ℕ, List, [], length, Contains, slice_index, slice_index_or, Operand, Sig, Const, Form, Fun, Delay, When, WhenConst, Default, Sync, Event, Equation, Kernel}

-- the signals among operands
abbrev pub signals_among : List Operand → List ℕ
signals_among [] = []
signals_among (Sig x ∷ operands) = x.0 ∷ signals_among operands
signals_among (Const constant ∷ operands) = signals_among operands

-- the signals of one clock that a form relates
abbrev pub related : Form → List ℕ
related (Fun y op operands) = y.0 ∷ signals_among operands
related (Delay y x initial) = y.0 ∷ x.0 ∷ []
related (When y x b) = []
related (WhenConst y constant b) = []
related (Default y u v) = []
related (Sync x y) = x.0 ∷ y.0 ∷ []
related (Event y x) = y.0 ∷ x.0 ∷ []

-- the smallest equivalence that contains a relation
pub data Equivalence (R : ℕ → ℕ → Type 0) : ℕ → ℕ → Type 0 where
  given : (x y : ℕ) → R x y → Equivalence R x y
  itself : (x : ℕ) → Equivalence R x x
  turned : (x y : ℕ) → Equivalence R x y → Equivalence R y x
  joined : (x y z : ℕ) → Equivalence R x y → Equivalence R y z → Equivalence R x z

-- two signals that one equation relates
pub record AreRelated (kernel : Kernel) (x y : ℕ) : Type 0 where
  pub number : ℕ
  pub within : number < length kernel.equations
  pub left : (d : Equation) → Contains (related (slice_index_or kernel.equations number d).form) x
  pub right : (d : Equation) → Contains (related (slice_index_or kernel.equations number d).form) y

-- signals of one clock
abbrev pub SameClock : Kernel → ℕ → ℕ → Type 0
SameClock kernel x y = Equivalence (AreRelated kernel) x y

-- the list gives to each signal of a kernel the least signal of its clock
pub record AreLeast (kernel : Kernel) (numbers : List ℕ) : Type 0 where
  pub count : length numbers ≡ length kernel.signals
  pub same : (signal : ℕ) → signal < length kernel.signals → SameClock kernel signal (slice_index numbers signal)
  pub least : (signal other : ℕ) → signal < length kernel.signals → SameClock kernel signal other → slice_index numbers signal ≤ other
