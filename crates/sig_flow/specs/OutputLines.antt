-- Lines of outputs, of which each new one goes in front of those that are there.
use Rattle.std.specs.Prelude.{◌+◌}
use Rattle.sig_flow.specs.Prelude.{ℕ, List, length, sum_by, Signal}

-- the lines that are there, and how many bytes there is room for in all
pub record LinesInFront : Type 0 where
  pub size : ℕ
  pub text : List ℕ

-- how many bytes the line of a signal has at most: its name, a blank, an integer of 64 bits and a newline
abbrev pub longest_line : Signal → ℕ
longest_line signal = length signal.name + 22

-- how many bytes those of some signals have at most
abbrev pub longest_lines : List Signal → ℕ
longest_lines signals = sum_by longest_line signals
