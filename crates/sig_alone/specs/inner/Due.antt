-- The lines of a reaction, where they are to be written.
use Rattle.sig_values.specs.Lines.{lines_of}
use Rattle.sig_alone.specs.Prelude.{ℕ, Bool, true, false, List, [], Kernel, Registers}

-- the lines of the outputs where they are due, and nothing where they are not
abbrev pub lines_due : Bool → Kernel → Registers → List ℕ
lines_due true kernel registers = lines_of kernel registers
lines_due false kernel registers = []
