-- Flow files: the flows that the lines of a file give the inputs of a program, and the first place
-- that offends.
use Rattle.std.specs.Prelude.{◌≡◌, ◌+◌, ◌==◌, ◌||◌, ◌&&◌, ◌∷◌, if◌then◌else◌}
use Rattle.sig_flow.specs.Prelude.{ℕ, ℤ, Bool, false, nat_le, List, [], codes, bytes_eq, map, flat_map, sum_by, Option, None, Some, is_none, Result, Ok, Err, list_all, is_ascii_alphabetic, is_ascii_alphanumeric, Kind, Signal, VALUES}
use Rattle.sig_flow.specs.First.{Judge, AllGood, IsFirst, first_fault}
use Rattle.sig_flow.specs.Lines.{Line, lines_of}
use Rattle.sig_flow.specs.Values.{run_said, run_length, run_values}
use Rattle.sig_flow.specs.Words.{Word, words_of}
use Rattle.sig_flow.specs.declared.answer.FlowAnswer.{FlowAnswer}
use Rattle.sig_flow.specs.declared.answer.FlowAnswer.TheVariants.{BadLine, NotAnInput, BadValue, OutOfRange, TooMany}
use Rattle.sig_flow.specs.declared.version.Version.{Version}
use Rattle.sig_flow.specs.declared.version.Version.TheVariants.{One, Two}
use Rattle.sig_flow.specs.declared.value.Run.{Run}
use Rattle.sig_flow.specs.declared.value.WordFault.{WordFault}
use Rattle.sig_flow.specs.declared.value.WordFault.TheVariants.{Bad, Outside}

-- a byte that a line may hold: a tab, or printable ASCII
abbrev pub is_line_byte : ℕ → Bool
is_line_byte b = (b == 9) || (nat_le 32 b && nat_le b 126)

-- what a name goes on with: letters, digits and '_'
abbrev pub is_name_byte : ℕ → Bool
is_name_byte b = is_ascii_alphanumeric b || (b == 95)

-- a name has this form: a letter, then letters, digits and '_'
abbrev pub is_name : List ℕ → Bool
is_name [] = false
is_name (c ∷ cs) = is_ascii_alphabetic c && list_all is_name_byte cs

-- the kind of the input of this name
abbrev pub kind_named : List Signal → List ℕ → Option Kind
kind_named [] name = None
kind_named (input ∷ inputs) name = if bytes_eq input.name name then Some input.kind else kind_named inputs name

-- what is wrong with a word of values behind so many values: it is no value, its integer is outside
-- 64 bits, or its values are too many
abbrev pub word_fault : ℕ → ℕ → ℕ → Result Run WordFault → Option FlowAnswer
word_fault number before col (Err Bad) = Some (BadValue number col)
word_fault number before col (Err Outside) = Some (OutOfRange number col)
word_fault number before col (Ok run) = if nat_le (before + run.times) VALUES then None else Some (TooMany VALUES)

-- the words of values of a line, judged from the left
abbrev pub value_judge : Version → Kind → ℕ → Judge Word FlowAnswer
value_judge version kind number = record {
  fault = λ before word. word_fault number before word.col (run_said version kind word.text);
  size = λ word. run_length (run_said version kind word.text);
}

-- what is wrong with the words of a line: the first has not the form of a name, or is no input's name,
-- or one of the others is wrong
abbrev pub named_fault : Version → ℕ → ℕ → List Word → Option Kind → Option FlowAnswer
named_fault version number before values None = Some (NotAnInput number)
named_fault version number before values (Some kind) = first_fault (value_judge version kind number) before values

abbrev pub words_fault : Version → List Signal → ℕ → ℕ → List Word → Option FlowAnswer
words_fault version inputs number before [] = None
words_fault version inputs number before (name ∷ values) =
    if is_name name.text then named_fault version number before values (kind_named inputs name.text)
    else Some (BadLine number)

-- what is wrong with the text of a line behind so many values
abbrev pub text_fault : Version → List Signal → ℕ → ℕ → List ℕ → Option FlowAnswer
text_fault version inputs number before text =
    if list_all is_line_byte text then words_fault version inputs number before (words_of text) else Some (BadLine number)

-- how many values the words of a line are
abbrev pub named_count : Version → List Word → Option Kind → ℕ
named_count version values None = 0
named_count version values (Some kind) = sum_by (value_judge version kind 0).size values

abbrev pub words_count : Version → List Signal → List Word → ℕ
words_count version inputs [] = 0
words_count version inputs (name ∷ values) = named_count version values (kind_named inputs name.text)

-- the lines of a file, judged from the first
abbrev pub line_judge : Version → List Signal → Judge Line FlowAnswer
line_judge version inputs = record {
  fault = λ before line. text_fault version inputs line.number before line.text;
  size = λ line. words_count version inputs (words_of line.text);
}

-- the values of words of values
abbrev pub values_of : Version → Kind → List Word → List ℤ
values_of version kind words = flat_map (λ word. run_values (run_said version kind word.text)) words

-- the values that the words of a line give an input: those behind its name
abbrev pub values_for : Version → Signal → List Word → List ℤ
values_for version input [] = []
values_for version input (name ∷ values) =
    if bytes_eq name.text input.name then values_of version input.kind values else []

-- the flow of an input: what all lines give it, one after another
abbrev pub flow_in : Version → List Line → Signal → List ℤ
flow_in version lines input = flat_map (λ line. values_for version input (words_of line.text)) lines

-- the words by which a file of version 2 begins: `flows` and `2`, where no input is named `flows`
abbrev pub is_header : List Signal → List Word → Bool
is_header inputs (first ∷ second ∷ []) =
    bytes_eq first.text (codes "flows") && bytes_eq second.text (codes "2") && is_none (kind_named inputs (codes "flows"))
is_header inputs _ = false

-- the version of a file, and the lines that hold its flows
pub record Body : Type 0 where
  pub version : Version
  pub lines : List Line

-- The first line with words is the header of version 2, and the flows are in the lines behind it; or
-- the file is of version 1.
abbrev pub body_at : List Signal → List Word → Line → List Line → Body → Body
body_at inputs [] line lines later = later
body_at inputs (first ∷ words) line lines later =
    if is_header inputs (first ∷ words) then record { version = Two; lines = lines }
    else record { version = One; lines = line ∷ lines }

abbrev pub body_of : List Signal → List Line → Body
body_of inputs [] = record { version = One; lines = [] }
body_of inputs (line ∷ lines) = body_at inputs (words_of line.text) line lines (body_of inputs lines)

-- the body of a file of these bytes
abbrev pub file_body : List Signal → List ℕ → Body
file_body inputs bytes = body_of inputs (lines_of bytes)

-- these are the flows of a body
pub record AreFlowsIn (inputs : List Signal) (body : Body) (flows : List (List ℤ)) : Type 0 where
  pub good : AllGood (line_judge body.version inputs) 0 body.lines
  pub each : flows ≡ map (flow_in body.version body.lines) inputs

-- the bytes are a flow file for these inputs, with these flows, one per input
abbrev pub AreFlows : List Signal → List ℕ → List (List ℤ) → Type 0
AreFlows inputs bytes flows = AreFlowsIn inputs (file_body inputs bytes) flows

-- the first offending place of a body, and why it offends
abbrev pub IsFirstIn : List Signal → Body → FlowAnswer → Type 0
IsFirstIn inputs body fault = IsFirst (line_judge body.version inputs) 0 body.lines fault

abbrev pub IsFirstBadPlace : List Signal → List ℕ → FlowAnswer → Type 0
IsFirstBadPlace inputs bytes fault = IsFirstIn inputs (file_body inputs bytes) fault
