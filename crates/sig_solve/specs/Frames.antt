-- A kernel with its clock classes, as the solver keeps them.
use Rattle.std.specs.Prelude.{◌≡◌, ◌==◌}
use Rattle.sig_solve.specs.Prelude.{ℕ, List, length, filter, slice_index, Contains, range_with_len, SigId, signal_id, AreLeast}
use Rattle.sig_solve.specs.declared.frame.Frame.{Frame}

-- the signals that are the least of their class
abbrev pub leaders_of : List ℕ → List ℕ
leaders_of least = filter (λ signal. slice_index least signal == signal) (range_with_len 0 (length least))

-- the parts of a frame fit together
pub record IsFrame (frame : Frame) : Type 0 where
  pub least : AreLeast frame.kernel.now frame.least.items
  pub leaders : frame.leaders.items ≡ leaders_of frame.least.items

-- the condition is among these
abbrev pub IsAmong : List SigId → ℕ → Type 0
IsAmong conditions condition = Contains conditions (signal_id condition)
