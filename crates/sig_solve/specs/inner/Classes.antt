-- Classes of signals with one guard, by their first signals.
use Rattle.std.specs.Prelude.{◌≡◌, ◌<◌, ◌≤◌, ◌⊎◌}
use Rattle.sig_solve.specs.Prelude.{ℕ, List, length, map, Option, None, Some, slice_get, slice_index, Contains, range_with_len, SigId, ClocksView, signal_id, Ref}
use Rattle.sig_solve.specs.inner.Orders.{by_layer}
use Rattle.sig_solve.specs.inner.Rounds.{layer_in}
use Rattle.sig_solve.specs.declared.frame.Frame.{Frame}

-- the guard of a signal is that of the least signal of its clock
abbrev pub guard_at : Frame → List Ref → ℕ → Option Ref
guard_at frame guards signal = slice_get guards (slice_index frame.least.items signal)

-- by layer, then by number
abbrev pub Precedes : Frame → List ℕ → SigId → SigId → Type 0
Precedes frame layers c d = (layer_in frame layers c.0 < layer_in frame layers d.0) ⊎ ((layer_in frame layers c.0 ≡ layer_in frame layers d.0) × (c.0 < d.0))

-- the first signal of each class: a root, and then, of the signals in the order of layers, each whose guard none before it has
pub record AreFirsts (frame : Frame) (layers : List ℕ) (guards : List Ref) (root : SigId) (ordered firsts : List SigId) : Type 0 where
  pub root_is : slice_get firsts 0 ≡ Some root
  pub differ : (i j : ℕ) (c d : SigId) → slice_get firsts i ≡ Some c → slice_get firsts j ≡ Some d → guard_at frame guards c.0 ≡ guard_at frame guards d.0 → i ≡ j
  pub all : (s : SigId) → Contains ordered s → (i : ℕ) × (c : SigId) × (slice_get firsts i ≡ Some c) × (guard_at frame guards c.0 ≡ guard_at frame guards s.0)
  pub listed : (i : ℕ) (c : SigId) → 1 ≤ i → slice_get firsts i ≡ Some c → Contains ordered c
  pub later : (i j : ℕ) (c d : SigId) → 1 ≤ i → i < j → slice_get firsts i ≡ Some c → slice_get firsts j ≡ Some d → Precedes frame layers c d
  pub first : (i : ℕ) (c s : SigId) → 1 ≤ i → slice_get firsts i ≡ Some c → Contains ordered s → guard_at frame guards s.0 ≡ guard_at frame guards c.0 → (s ≡ c) ⊎ Precedes frame layers c s

-- the place of a signal with the same guard, or there is none
abbrev pub IsPlace : Frame → List Ref → List SigId → ℕ → Option ℕ → Type 0
IsPlace frame guards firsts signal None = (i : ℕ) (c : SigId) → slice_get firsts i ≡ Some c → guard_at frame guards c.0 ≡ guard_at frame guards signal → ⊥
IsPlace frame guards firsts signal (Some i) = (c : SigId) × (slice_get firsts i ≡ Some c) × (guard_at frame guards c.0 ≡ guard_at frame guards signal)

-- each signal's number is the place of a first signal with its guard
pub record AreClasses (frame : Frame) (guards : List Ref) (firsts : List SigId) (classes : List ℕ) : Type 0 where
  pub each : (s : ℕ) → s < length classes → IsPlace frame guards firsts s (Some (slice_index classes s))

-- the guards of the first signals
pub record AreGuardsOf (frame : Frame) (guards : List Ref) (firsts : List SigId) (own : List Ref) : Type 0 where
  pub count : length own ≡ length firsts
  pub each : (i : ℕ) (c : SigId) → slice_get firsts i ≡ Some c → slice_get own i ≡ guard_at frame guards c.0

-- the clocks are made of these layers and guards
pub record AreMadeOf (frame : Frame) (layers : List ℕ) (guards : List Ref) (root : SigId) (conditions : List SigId) (clocks : ClocksView) : Type 0 where
  pub firsts : List SigId
  pub are : AreFirsts frame layers guards root (by_layer frame layers (map signal_id (range_with_len 0 (length frame.kernel.now.signals))) (length frame.leaders.items)) firsts
  pub count : length clocks.class_of ≡ length frame.kernel.now.signals
  pub classes : AreClasses frame guards firsts clocks.class_of
  pub guard : AreGuardsOf frame guards firsts clocks.guard
  pub layer : clocks.layer ≡ map (λ c. layer_in frame layers c.0) firsts
  pub conditions_are : clocks.conditions ≡ conditions
