-- Trace files: the first line with words names each signal once, and each later line with words is an
-- instant, with one word for each name.
use Rattle.std.specs.Prelude.{◌≡◌, ◌+◌, ◌==◌, ◌&&◌, ◌∷◌, if◌then◌else◌}
use Rattle.sig_judge.specs.Prelude.{ℕ, ℤ, Bool, nat_lt, List, [], codes, bytes_eq, map, length, count_by, slice_index_or, flat_map, Option, None, Some, is_some, unwrap_or, Result, Ok, Err, list_all, position_or_len, Kind, Integer, VALUES, Seen, Instant, Trace, Judge, AllGood, IsFirst, is_line_byte, kind_named, Line, lines_of, value_said, Word, words_of, WordFault, Bad, Outside}
use Rattle.sig_base.specs.declared.signal.Signal.{Signal}
use Rattle.sig_judge.specs.declared.trace_answer.TraceAnswer.{TraceAnswer}
use Rattle.sig_judge.specs.declared.trace_answer.TraceAnswer.TheVariants.{BadLine, BadHeader, BadWidth, BadValue, OutOfRange, TooMany}

-- the texts of words
abbrev pub texts_of : List Word → List (List ℕ)
texts_of words = map (λ word. word.text) words

-- each word is a signal's name
abbrev pub are_names : List Signal → List (List ℕ) → Bool
are_names signals header = list_all (λ word. is_some (kind_named signals word)) header

-- a name is exactly one of the words
abbrev pub is_named_once : List (List ℕ) → List ℕ → Bool
is_named_once header name = count_by (bytes_eq name) header == 1

-- each word is a signal's name, and each signal is named by exactly one word
abbrev pub is_header : List Signal → List (List ℕ) → Bool
is_header signals header = are_names signals header && list_all (λ signal. is_named_once header signal.name) signals

-- the kinds of the signals that words name
abbrev pub kinds_named : List Signal → List (List ℕ) → List Kind
kinds_named signals header = map (λ word. unwrap_or (kind_named signals word) Integer) header

-- the place of the word that is a name
abbrev pub column_of : List (List ℕ) → List ℕ → ℕ
column_of header name = position_or_len (bytes_eq name) header

-- what a word says of a signal of a kind: absent, or a value
abbrev pub present_with : Result ℤ WordFault → Result Seen WordFault
present_with (Ok value) = Ok (Some value)
present_with (Err fault) = Err fault

abbrev pub cell_said : Kind → List ℕ → Result Seen WordFault
cell_said kind word = if bytes_eq word (codes ".") then Ok None else present_with (value_said kind word)

-- what is wrong with a word of an instant behind so many of them
abbrev pub cell_fault : (number before col : ℕ) → Result Seen WordFault → Option TraceAnswer
cell_fault number before col (Err Bad) = Some (BadValue number col)
cell_fault number before col (Err Outside) = Some (OutOfRange number col)
cell_fault number before col (Ok seen) = if nat_lt before VALUES then None else Some (TooMany VALUES)

-- what is wrong with the words of an instant, of signals of these kinds, from the left
abbrev pub cells_fault : (number before : ℕ) → List Kind → List Word → Option TraceAnswer
cells_fault number before [] words = None
cells_fault number before (kind ∷ kinds) [] = None
cells_fault number before (kind ∷ kinds) (word ∷ words) =
    elim (cell_fault number before word.col (cell_said kind word.text)) [ Some fault ↦ Some fault | None ↦ cells_fault number (before + 1) kinds words ]

-- what is wrong with the words of a line behind the header; a line without words is skipped
abbrev pub row_fault : (number before : ℕ) → List Kind → List Word → Option TraceAnswer
row_fault number before kinds [] = None
row_fault number before kinds (word ∷ words) =
    if length (word ∷ words) == length kinds then cells_fault number before kinds (word ∷ words) else Some (BadWidth number)

abbrev pub text_fault : (number before : ℕ) → List Kind → List ℕ → Option TraceAnswer
text_fault number before kinds text = if list_all is_line_byte text then row_fault number before kinds (words_of text) else Some (BadLine number)

-- the lines behind the header, judged from the first
abbrev pub row_judge : List Kind → Judge Line TraceAnswer
row_judge kinds = record { fault = λ before line. text_fault line.number before kinds line.text; size = λ line. length (words_of line.text) }

-- what the words of an instant say, one by one
abbrev pub seen_said : Result Seen WordFault → Seen
seen_said (Ok seen) = seen
seen_said (Err fault) = None

abbrev pub cells_said : List Kind → List Word → List Seen
cells_said [] words = []
cells_said (kind ∷ kinds) [] = []
cells_said (kind ∷ kinds) (word ∷ words) = seen_said (cell_said kind word.text) ∷ cells_said kinds words

-- the instant that the words of a line are: each signal is what the word below its name says
abbrev pub instants_said : List Signal → List (List ℕ) → List Word → List Instant
instants_said signals header [] = []
instants_said signals header (word ∷ words) =
    map (λ signal. slice_index_or (cells_said (kinds_named signals header) (word ∷ words)) (column_of header signal.name) None) signals ∷ []

-- the lines of a trace file from the first one with words on: that line, and those behind it
pub record Body : Type 0 where
  pub header : Line
  pub rows : List Line

abbrev pub body_at : List Word → Line → List Line → Option Body → Option Body
body_at [] line lines later = later
body_at (word ∷ words) line lines later = Some (record { header = line; rows = lines })

abbrev pub body_of : List Line → Option Body
body_of [] = None
body_of (line ∷ lines) = body_at (words_of line.text) line lines (body_of lines)

-- the names in the header
abbrev pub names_in : Line → List (List ℕ)
names_in header = texts_of (words_of header.text)

-- what is wrong with the header, if anything
abbrev pub header_fault : List Signal → Line → Option TraceAnswer
header_fault signals header =
    if list_all is_line_byte header.text
    then (if is_header signals (names_in header) then None else Some (BadHeader header.number))
    else Some (BadLine header.number)

-- the bytes are a trace file of these signals, with this trace
pub record IsTraceFile (signals : List Signal) (bytes : List ℕ) (trace : Trace) : Type 0 where
  pub body : Body
  pub body_is : body_of (lines_of bytes) ≡ Some body
  pub header : header_fault signals body.header ≡ None
  pub rows : AllGood (row_judge (kinds_named signals (names_in body.header))) 0 body.rows
  pub each : trace ≡ flat_map (λ line. instants_said signals (names_in body.header) (words_of line.text)) body.rows

-- the first place of the bytes that offends, and why: there is no header, or something is wrong with it, or
-- with a later line
pub data IsFirstBadPlace (signals : List Signal) (bytes : List ℕ) (fault : TraceAnswer) : Type 0 where
  no_header : body_of (lines_of bytes) ≡ None → fault ≡ BadHeader 1 → IsFirstBadPlace signals bytes fault
  bad_header : (body : Body) → body_of (lines_of bytes) ≡ Some body → header_fault signals body.header ≡ Some fault → IsFirstBadPlace signals bytes fault
  bad_row : (body : Body) → body_of (lines_of bytes) ≡ Some body → header_fault signals body.header ≡ None
      → IsFirst (row_judge (kinds_named signals (names_in body.header))) 0 body.rows fault → IsFirstBadPlace signals bytes fault
