-- The lines of a reaction.
use Rattle.std.specs.Prelude.{◌≡◌, ◌<◌}
use Rattle.sig_values.specs.Prelude.{ℕ, List, [], length, slice_get, Option, None, Some, Seen, Instant, Signal, outputs_of, seen_line, seen_lines, Kernel, Registers, reaction_in}

-- the line of a signal, where there is one and it is present
abbrev pub line_where : Option Signal → Seen → List ℕ
line_where None seen = []
line_where (Some signal) seen = seen_line signal seen

-- the line of the signal of a number
abbrev pub line_at : Kernel → Registers → ℕ → List ℕ
line_at kernel registers number = line_where (slice_get kernel.signals number) (registers number)

-- the lines of the outputs
abbrev pub lines_of : Kernel → Registers → List ℕ
lines_of kernel registers = seen_lines (outputs_of kernel) (reaction_in kernel registers)

-- what is told of each output, by its place, is what it is in an instant
abbrev pub TellsInstant : (ℕ → Seen → Type 0) → List Signal → Instant → Type 0
TellsInstant told outputs instant = (place : ℕ) (seen : Seen) → place < length outputs → told place seen → slice_get instant place ≡ Some seen

-- what is told of each signal is what it is by the registers
abbrev pub TellsRegisters : (ℕ → Seen → Type 0) → Kernel → Registers → Type 0
TellsRegisters told kernel registers = (number : ℕ) (seen : Seen) → number < length kernel.signals → told number seen → seen ≡ registers number
