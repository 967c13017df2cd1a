-- What calls of a step do, compared with a run of an image.
use Rattle.std.specs.Prelude.{◌≡◌, ◌∷◌, ◌+◌, ℕ, zero, suc, ℤ, true, List, [], slice_get, Option, None, Some}
use Rattle.std.specs.List.{flat_map}
use Rattle.sig_kernel.specs.OutputText.{line_of}
use Rattle.sig_file.specs.Guarded.{Guarded, Guards, guards_of}
use Rattle.sig_file.specs.ImageRuns.{Ends, Handles, HandlesAll, State, cleared, holds, opening}
use Rattle.sig_file.specs.Images.{ImageView}
use Rattle.sig_file.specs.declared.images.ImageOp.{ImageOp}
use Rattle.sig_file.specs.declared.images.ImageOpKind.{ImageOpKind}
use Rattle.sig_file.specs.declared.images.ImageOpKind.TheVariants as does
use Rattle.sig_file.specs.declared.images.ImageSignal.{ImageSignal}
use Rattle.sig_file.specs.declared.run.ImageCause.{ImageCause}
use Rattle.sig_file.specs.declared.run.ImageCause.TheVariants.{Exhausted, Limit, Overflow, ZeroDivisor}
use Rattle.sig_file.specs.declared.run.ImageEnd.{ImageEnd}
use Rattle.sig_c.specs.SmallC as c
use Rattle.sig_c.specs.SmallC.{Field, Header, EndCause, EndRow, TranslationUnit}
use Rattle.sig_c.specs.Meaning.{Memory}
use Rattle.sig_c.specs.Calls as called
use Rattle.sig_c.specs.Calls.{Called, Answered, calls, begun, step_of}

-- ---- the outputs

abbrev pub line_in : Option ImageSignal → ℤ → List ℕ
line_in None v = []
line_in (Some signal) v = line_of signal.name signal.kind v

-- the line of a value that the function of an output was given
abbrev pub given_line : ImageView → (ℕ × ℤ) → List ℕ
given_line image (output, v) = line_in (slice_get image.signals (image.inputs + output)) v

-- ---- the end

-- what C calls a cause
abbrev pub cause_in_c : ImageCause → EndCause
cause_in_c (Exhausted x) = c.Exhausted
cause_in_c (Overflow at) = c.Overflow
cause_in_c (ZeroDivisor at) = c.DivisionByZero
cause_in_c Limit = c.Done

-- the signal that an operation reads, or that it gives the value of a function
abbrev pub IsAbout : ImageOpKind → ℕ → Type 0
IsAbout (does.Read x) signal = signal ≡ x.0
IsAbout (does.Fun y op operands) signal = signal ≡ y.0
IsAbout other signal = ⊥

-- So many instants are committed from one state on, and lead to another one.
abbrev pub Commit : Guards → (instants : ℕ) → State → State → Type 0
Commit guards zero s last = last ≡ s
Commit guards (suc instants) s last = (t : State) × HandlesAll guards guards.ops (cleared guards s) t × Commit guards instants t last

-- Operations are handled in order up to the one at this place, which ends the run in this state.
abbrev pub EndsAt : Guards → List Guarded → State → ImageCause → (place : ℕ) → State → Type 0
EndsAt guards [] s cause place state = ⊥
EndsAt guards (op ∷ ops) s cause zero state = (holds guards op s ≡ true) × Ends op.kind op.at s cause × (state ≡ s)
EndsAt guards (op ∷ ops) s cause (suc place) state = (middle : State) × Handles guards op s middle × EndsAt guards ops middle cause place state

-- A row of P_ends is that of the end of an instant, whose operations begin in this state: the operation that ends the run has the place
-- that the row has, and is about the signal whose name it has.
pub record IsRowOf (image : ImageView) (start : State) (row : EndRow) (cause : ImageCause) : Type 0 where
  pub place : ℕ
  pub state : State
  pub stops : EndsAt (guards_of image) (guards_of image).ops start cause place state
  pub op : ImageOp
  pub at : slice_get image.ops place ≡ Some op
  pub ends : Ends op.kind op.at state cause
  pub about : ℕ
  pub is_about : IsAbout op.kind about
  pub signal : ImageSignal
  pub is_signal : slice_get image.signals about ≡ Some signal
  pub cause_is : row.cause ≡ cause_in_c cause
  pub line_is : row.line ≡ op.at.line
  pub column_is : row.column ≡ op.at.col
  pub name_is : row.name ≡ signal.name

-- The call after those that answer 0 answers the number of the row of the end to which the instants lead. It leaves each field of the
-- state as it was, and gives no output.
pub record Refuses (unit : TranslationUnit) (image : ImageView) (first : State) (before : Memory) (cause : ImageCause) (came : Called) (instants : ℕ) : Type 0 where
  pub code : ℕ
  pub after : Memory
  pub answers : came ≡ Answered instants code after
  pub last : State
  pub leads : Commit (guards_of image) instants first last
  pub row : EndRow
  pub at : slice_get unit.ends code ≡ Some row
  pub tells : IsRowOf image (cleared (guards_of image) last) row cause
  pub fields : (n : ℕ) → after.values (Field n) ≡ before.values (Field n)
  pub outputs : after.given ≡ before.given

-- why no further call answers 0: the limit is reached, or the next call refuses
abbrev pub EndsInC : TranslationUnit → ImageView → State → Memory → ImageCause → Called → (instants : ℕ) → Type 0
EndsInC unit image first before Limit came instants = came ≡ called.Limit before
EndsInC unit image first before cause came instants = Refuses unit image first before cause came instants

-- Calls of a step, up to a limit, where the functions of the inputs give these flows, do what a run of the image does, which has this
-- text and this end. As many calls answer 0 as the run has instants. The functions of the outputs are given the values whose lines make
-- the text. Then the limit is reached, or a call answers the number of the cause.
pub record ComesToInC (header : Header) (unit : TranslationUnit) (image : ImageView) (flows : List (List ℤ)) (limit : ℕ) (text : List ℕ) (end : ImageEnd) : Type 0 where
  -- the memory after the calls that answer 0
  pub before : Memory
  pub done : calls end.instants (step_of header unit) (begun header unit flows) ≡ called.Limit before
  pub lines : text ≡ flat_map (given_line image) before.given
  pub ends : EndsInC unit image (opening (guards_of image) flows) before end.cause (calls limit (step_of header unit) (begun header unit flows)) end.instants
