-- The text of a run: a line for each output that is present, instant by instant.
use Rattle.std.specs.Prelude.{◌∷◌, ◌++◌, if◌then◌else◌}
use Rattle.sig_kernel.specs.Prelude.{ℕ, ℤ, List, [], codes, flat_map, pos, take, drop, None, Some, signed_decimal, int_eq, Kind, Integer, Boolean, Event, Signal, Seen, Instant, Trace}
use Rattle.sig_kernel.specs.declared.kernel.Kernel.{Kernel}

-- a truth: 0 is false
abbrev pub truth_text : ℤ → List ℕ
truth_text item = if int_eq item (pos 0) then codes "false" else codes "true"

-- the text of a value of this kind
abbrev pub value_text : Kind → ℤ → List ℕ
value_text Integer item = signed_decimal item
value_text Boolean item = truth_text item
value_text Event item = truth_text item

-- a name, a blank, the text of a value and a newline
abbrev pub line_with : List ℕ → List ℕ → List ℕ
line_with name value = flat_map (λ piece. piece) (name ∷ codes " " ∷ value ∷ codes "\n" ∷ [])

-- the line of a value of the signal of this name
abbrev pub line_of : List ℕ → Kind → ℤ → List ℕ
line_of name kind item = line_with name (value_text kind item)

-- the line of a signal, where it is present
abbrev pub seen_line : Signal → Seen → List ℕ
seen_line signal None = []
seen_line signal (Some v) = line_of signal.name signal.kind v

-- the lines of signals, in order
abbrev pub seen_lines : List Signal → List Seen → List ℕ
seen_lines [] seen = []
seen_lines (signal ∷ signals) [] = []
seen_lines (signal ∷ signals) (s ∷ seen) = seen_line signal s ++ seen_lines signals seen

abbrev pub outputs_of : Kernel → List Signal
outputs_of kernel = take kernel.outputs (drop kernel.inputs kernel.signals)

-- the lines of an instant: those of the outputs that are present, in the order of their declaration
abbrev pub instant_text : Kernel → Instant → List ℕ
instant_text kernel instant = seen_lines (outputs_of kernel) (drop kernel.inputs instant)

-- the text of a trace
abbrev pub output_text : Kernel → Trace → List ℕ
output_text kernel trace = flat_map (λ instant. instant_text kernel instant) trace
