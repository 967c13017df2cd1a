-- Layers as far as some rounds tell, and where rounds bring nothing new.
use Rattle.std.specs.Prelude.{◌≡◌, ◌<◌, ◌≤◌, ◌⊎◌, ◌↔◌}
use Rattle.sig_solve.specs.Prelude.{ℕ, suc, Bool, true, false, List, length, nat_lt, slice_index, Contains, AllPairs, SigId, is_condition, EntersBy, HasLayer, IsDetermined, NeverEnters, Kernel}
use Rattle.sig_solve.specs.Frames.{IsAmong}
use Rattle.sig_solve.specs.declared.frame.Frame.{Frame}

-- whether the presence of a signal is left open by known conditions
abbrev pub IsOpenAnswer : Kernel → (ℕ → Type 0) → ℕ → Bool → Type 0
IsOpenAnswer kernel Known signal true = IsDetermined kernel Known signal → ⊥
IsOpenAnswer kernel Known signal false = IsDetermined kernel Known signal

-- the numbers stand in increasing order
abbrev pub AreIncreasing : List ℕ → Type 0
AreIncreasing numbers = AllPairs (λ x y. x < y) numbers

-- the layer of a signal is that of its least signal; 0 stands for none
abbrev pub layer_in : Frame → List ℕ → ℕ → ℕ
layer_in frame layers signal = slice_index layers (slice_index frame.least.items signal)

-- The layers of the least signals as far as the rounds tell, and the least signals that have not entered.
pub record AreRounds (frame : Frame) (round : ℕ) (layers waiting : List ℕ) : Type 0 where
  pub count : length layers ≡ length frame.kernel.now.signals
  pub increasing : AreIncreasing waiting
  pub entered : (s : ℕ) → Contains frame.leaders.items s → 0 < slice_index layers s → HasLayer frame.kernel.now s (slice_index layers s) × (slice_index layers s ≤ round)
  pub left : (s : ℕ) → Contains waiting s → Contains frame.leaders.items s × (EntersBy frame.kernel.now round s → ⊥)
  pub all : (s : ℕ) → Contains frame.leaders.items s → slice_index layers s ≡ 0 → Contains waiting s

-- The same within a round: some least signals are still open, and of the rest it is not known.
pub record ArePassed (frame : Frame) (round : ℕ) (layers still rest : List ℕ) : Type 0 where
  pub count : length layers ≡ length frame.kernel.now.signals
  pub increasing : AreIncreasing still
  pub later : AreIncreasing rest
  pub before : (s t : ℕ) → Contains still s → Contains rest t → s < t
  pub entered : (s : ℕ) → Contains frame.leaders.items s → 0 < slice_index layers s → HasLayer frame.kernel.now s (slice_index layers s) × (slice_index layers s ≤ suc round)
  pub left : (s : ℕ) → Contains still s → Contains frame.leaders.items s × (EntersBy frame.kernel.now (suc round) s → ⊥)
  pub unknown : (s : ℕ) → Contains rest s → Contains frame.leaders.items s × (slice_index layers s ≡ 0) × (EntersBy frame.kernel.now round s → ⊥)
  pub all : (s : ℕ) → Contains frame.leaders.items s → slice_index layers s ≡ 0 → Contains still s ⊎ Contains rest s

-- The layers of the least signals, and those that never enter.
pub record AreSettled (frame : Frame) (layers waiting : List ℕ) : Type 0 where
  pub count : length layers ≡ length frame.kernel.now.signals
  pub increasing : AreIncreasing waiting
  pub entered : (s : ℕ) → Contains frame.leaders.items s → 0 < slice_index layers s → HasLayer frame.kernel.now s (slice_index layers s) × (slice_index layers s ≤ length frame.leaders.items)
  pub left : (s : ℕ) → Contains waiting s → Contains frame.leaders.items s × NeverEnters frame.kernel.now s
  pub all : (s : ℕ) → Contains frame.leaders.items s → slice_index layers s ≡ 0 → Contains waiting s

-- the known conditions are those that have entered
abbrev pub AreEntered : Kernel → ℕ → List SigId → Type 0
AreEntered kernel round known = (condition : ℕ) → is_condition kernel condition ≡ true → IsAmong known condition ↔ EntersBy kernel round condition

-- a condition whose class has entered
abbrev pub has_entered : Frame → List ℕ → SigId → Bool
has_entered frame layers condition = nat_lt 0 (layer_in frame layers condition.0)
