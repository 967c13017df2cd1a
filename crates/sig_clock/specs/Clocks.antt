-- What contracts see of the clocks of a kernel, and what holds of them.
use Rattle.std.specs.Prelude.{◌≡◌, ◌≢◌, ◌<◌, ◌≤◌, ◌⊎◌, ◌↔◌}
use Rattle.sig_clock.specs.Prelude.{ℕ, true, List, length, slice_index, slice_get, Option, None, Some, Contains, AllByRecursion, SigId, Agree, Depends, Holds, test, Node, Ref, Kernel}
use Rattle.sig_clock.specs.Conditions.{is_condition}
use Rattle.sig_clock.specs.ClockFunctions.{IsClockFunction}
use Rattle.sig_clock.specs.Layers.{IsRoot, IsSignal, HasLayer, IsEarlier}

pub record ClocksView : Type 0 where
  -- the class of each signal
  pub class_of : List ℕ
  -- the guard of each class
  pub guard : List Ref
  -- the layer of each class
  pub layer : List ℕ
  -- the condition that each variable of a guard stands for
  pub conditions : List SigId

-- a signal of a class, of which none has a lesser number
pub record IsLeastOf (class_of : List ℕ) (class signal : ℕ) : Type 0 where
  pub within : signal < length class_of
  pub is : slice_index class_of signal ≡ class
  pub least : (other : ℕ) → other < length class_of → slice_index class_of other ≡ class → signal ≤ other

-- the conditions of a kernel, each once, in the condition order
pub record AreInOrder (kernel : Kernel) (conditions : List SigId) : Type 0 where
  pub all : (condition : SigId) → Contains conditions condition ↔ (is_condition kernel condition.0 ≡ true)
  pub order : (i j : ℕ) (c d : SigId) → i < j → slice_get conditions i ≡ Some c → slice_get conditions j ≡ Some d → IsEarlier kernel c.0 d.0

-- the guard of a signal's class
abbrev pub guard_of : ClocksView → ℕ → Option Ref
guard_of clocks signal = slice_get clocks.guard (slice_index clocks.class_of signal)

-- These are the clocks of a kernel, with their guards among the nodes of a store.
pub record AreClocks (kernel : Kernel) (nodes : List Node) (clocks : ClocksView) : Type 0 where
  pub count : length clocks.class_of ≡ length kernel.signals
  pub layers : length clocks.layer ≡ length clocks.guard
  pub conditions : AreInOrder kernel clocks.conditions
  -- each signal has a class, and each class a least signal
  pub classes : (signal : ℕ) → IsSignal kernel signal → slice_index clocks.class_of signal < length clocks.guard
  pub members : (class : ℕ) → class < length clocks.guard → (signal : ℕ) × IsLeastOf clocks.class_of class signal
  -- guards are references of the store to functions of the conditions
  pub held : (class : ℕ) (guard : Ref) → slice_get clocks.guard class ≡ Some guard → Holds nodes guard
  pub variables : (class : ℕ) (guard : Ref) → slice_get clocks.guard class ≡ Some guard
      → (v : ℕ) → Depends (test nodes guard) v → v < length clocks.conditions
  -- a guard is the clock function of each signal of its class
  pub functions : (signal : ℕ) (guard : Ref) → IsSignal kernel signal → guard_of clocks signal ≡ Some guard
      → IsClockFunction kernel clocks.conditions signal (test nodes guard)
  -- two classes have different functions
  pub differ : (c d : ℕ) (f g : Ref) → slice_get clocks.guard c ≡ Some f → slice_get clocks.guard d ≡ Some g
      → Agree (test nodes f) (test nodes g) → c ≡ d
  -- a class has the layer of its signals
  pub layer : (signal : ℕ) → IsSignal kernel signal → HasLayer kernel signal (slice_index clocks.layer (slice_index clocks.class_of signal))
  -- class 0 is that of the roots, and the others are numbered by layer, then by least signal
  pub roots : (signal : ℕ) → IsSignal kernel signal → (slice_index clocks.class_of signal ≡ 0) ↔ IsRoot kernel signal
  pub numbers : (c d s t : ℕ) → 1 ≤ c → c < d → d < length clocks.guard → IsLeastOf clocks.class_of c s → IsLeastOf clocks.class_of d t
      → (slice_index clocks.layer c < slice_index clocks.layer d) ⊎ ((slice_index clocks.layer c ≡ slice_index clocks.layer d) × (s < t))
