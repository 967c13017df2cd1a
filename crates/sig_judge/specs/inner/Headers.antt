-- Headers and lines, as they are read.
use Rattle.std.specs.Prelude.{◌≡◌, ◌+◌, ◌<◌, ◌++◌, ◌∷◌}
use Rattle.sig_judge.specs.Prelude.{ℕ, true, List, [], Option, None, Some, bytes_eq, length, map, count_by, slice_index_or, lines, Kind, Instant, Line, numbered, Word, words_from, words_of}
use Rattle.sig_base.specs.declared.signal.Signal.{Signal}
use Rattle.sig_judge.specs.TraceFiles.{Body, are_names, cells_said, column_of, kinds_named, texts_of}
use Rattle.sig_judge.specs.declared.header.Header.{Header}
use Rattle.sig_judge.specs.declared.header.Start.{Start}

-- the line of this number
abbrev pub line_of : ℕ → List ℕ → Line
line_of number text = record { number = number; text = text }

-- the header's line, and the lines behind it
abbrev pub header_line : Start → Line
header_line start = line_of start.number start.line.now

abbrev pub body_behind : Start → Body
body_behind start = record { header = header_line start; rows = numbered (start.number + 1) (lines start.rest.now) }

-- the kinds and the places that a header's names give
pub record IsHeaderOf (signals : List Signal) (names : List (List ℕ)) (header : Header) : Type 0 where
  pub kinds : header.kinds.items ≡ kinds_named signals names
  pub columns : header.columns.items ≡ map (λ signal. column_of names signal.name) signals

-- a name is not among some, or is one of them and stands at this place
abbrev pub IsPlace : (names : List (List ℕ)) → (name : List ℕ) → Option ℕ → Type 0
IsPlace names name None = count_by (bytes_eq name) names ≡ 0
IsPlace names name (Some place) = (count_by (bytes_eq name) names ≡ 1) × (column_of names name ≡ place)

-- What the names in front of the words that are left of a line say: each is that of a signal, no signal
-- is named twice, and these are their kinds and the places of the signals that are named.
pub record Named (signals : List Signal) (line : List ℕ) (kinds : List Kind) (places : List (Option ℕ)) (col : ℕ) (rest : List ℕ) : Type 0 where
  pub done : List Word
  pub split : words_of line ≡ done ++ words_from col rest
  pub known : are_names signals (texts_of done) ≡ true
  pub kinds_are : kinds ≡ kinds_named signals (texts_of done)
  pub same_length : length places ≡ length signals
  pub places_are : (k : ℕ) (d : Signal) → k < length signals → IsPlace (texts_of done) (slice_index_or signals k d).name (slice_index_or places k None)

-- the instant that the words of a line are, by what a header says
abbrev pub instants_in : Header → List Word → List Instant
instants_in header [] = []
instants_in header (word ∷ words) = map (λ column. slice_index_or (cells_said header.kinds.items (word ∷ words)) column None) header.columns.items ∷ []
