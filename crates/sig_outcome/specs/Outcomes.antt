-- What a command comes to over told contents: what it writes, its status, and the line that it says; and what a file gives.
-- Which outcome a command comes to is a relation of its own crate, of this type: `Contents → Outcome → Type 0`.
use Rattle.std.specs.Fmt.{decimal}
use Rattle.std.specs.Prelude.{◌≡◌, ◌≤◌, ◌++◌, ℕ, List, [], length, codes, Option, Some, None}
use Rattle.sig_base.specs.Lines.{refusal}
use Rattle.sig_base.specs.declared.limits.TheConstants.{PROGRAM_BYTES}
use Rattle.sig_text.specs.Files.{Contents}
use Rattle.sig_text.specs.Read.{IsLongerThan}

-- what a command comes to: the text that is due on its output, its status, its line on standard error,
-- and the file that it asked for last, if it asked for any
pub record Outcome : Type 0 where
  pub text : List ℕ
  pub status : ℕ
  pub line : List ℕ
  pub file : Option (List ℕ)

-- a command that is done with a text, behind a file
abbrev pub done : (text file : List ℕ) → Outcome
done text file = record { text = text; status = 0; line = []; file = Some file }

-- a refusal: nothing is due, and a line says why
abbrev pub refused : ℕ → List ℕ → Option (List ℕ) → Outcome
refused status text file = record { text = []; status = status; line = text ++ codes "\n"; file = file }

-- a command writes a text that is due
pub record WritesDue (IsText : List ℕ → Type 0) (file : List ℕ) (o : Outcome) : Type 0 where
  pub text : List ℕ
  pub due : IsText text
  pub is : o ≡ done text file

-- ---- lines, without their newlines

abbrev pub not_found : List ℕ → List ℕ
not_found name = refusal (name ++ codes ": not found")

abbrev pub read_failed : List ℕ → List ℕ
read_failed name = refusal (name ++ codes ": read failed")

abbrev pub no_nodes : ℕ → List ℕ
no_nodes nodes = refusal (decimal nodes ++ codes " diagram nodes")

abbrev pub long_program : List ℕ
long_program = refusal (codes "program longer than 1048576 bytes")

abbrev pub too_many_items : List ℕ
too_many_items = refusal (codes "links times capacity above 16777216")

abbrev pub long_file : List ℕ → List ℕ
long_file name = refusal (name ++ codes ": longer than 67108864 bytes")

abbrev pub long_image : List ℕ
long_image = refusal (codes "image longer than 67108864 bytes")

abbrev pub out_of_memory : List ℕ
out_of_memory = refusal (codes "out of memory")

-- ---- what a file gives

-- a file is there with no more than so many bytes, of which a fact holds
pub record Holds (held : Option (List ℕ)) (limit : ℕ) (Fact : List ℕ → Type 0) : Type 0 where
  pub bytes : List ℕ
  pub there : held ≡ Some bytes
  pub short : length bytes ≤ limit
  pub good : Fact bytes

-- what a file gives: it is not there, it is too long, its bytes are refused with a line, or they say
-- what is wanted
pub data Found (A : Type 0) : Type 0 where
  Absent : Found A
  Long : Found A
  Bad : List ℕ → Found A
  Good : A → Found A

abbrev pub Finds : {A : Type 0} → Option (List ℕ) → ℕ → (List ℕ → A → Type 0) → (List ℕ → List ℕ → Type 0) → Found A → Type 0
Finds held limit Says Refuses Absent = held ≡ None
Finds held limit Says Refuses Long = IsLongerThan held limit
Finds held limit Says Refuses (Bad line) = Holds held limit (λ bytes. Refuses bytes line)
Finds held limit Says Refuses (Good what) = Holds held limit (λ bytes. Says bytes what)

-- a file that gives nothing ends the command, with this status where its bytes do not serve; else comes
-- what follows
abbrev pub AtFile : {A : Type 0} → ℕ → List ℕ → List ℕ → Found A → (A → Outcome → Type 0) → Outcome → Type 0
AtFile status long name Absent Next o = o ≡ refused 5 (not_found name) (Some name)
AtFile status long name Long Next o = o ≡ refused status long (Some name)
AtFile status long name (Bad line) Next o = o ≡ refused status line (Some name)
AtFile status long name (Good what) Next o = Next what o

-- what a program file gives, of bytes that say what is wanted or are refused with a line
abbrev pub FindsProgram : {A : Type 0} → (List ℕ → A → Type 0) → (List ℕ → List ℕ → Type 0) → Option (List ℕ) → Found A → Type 0
FindsProgram Says Refuses held found = Finds held PROGRAM_BYTES Says Refuses found

abbrev pub AtProgram : {A : Type 0} → (List ℕ → A → Type 0) → (List ℕ → List ℕ → Type 0) → Contents → List ℕ → (A → Outcome → Type 0) → Outcome → Type 0
AtProgram {A} Says Refuses held name Next o =
    (found : Found A) × FindsProgram Says Refuses (held name) found × AtFile 1 long_program name found Next o

-- what a flow file, a trace file or an image file gives
abbrev pub FindsData : {A : Type 0} → (List ℕ → A → Type 0) → (List ℕ → List ℕ → Type 0) → Option (List ℕ) → Found A → Type 0
FindsData Says Refuses held found = Finds held 67108864 Says Refuses found

abbrev pub AtData : {A : Type 0} → (List ℕ → A → Type 0) → (List ℕ → List ℕ → Type 0) → Contents → List ℕ → (A → Outcome → Type 0) → Outcome → Type 0
AtData {A} Says Refuses held name Next o =
    (found : Found A) × FindsData Says Refuses (held name) found × AtFile 4 (long_file name) name found Next o

-- one outcome at most
abbrev pub OneAtMost : (Outcome → Type 0) → Type 0
OneAtMost Comes = (o p : Outcome) → Comes o → Comes p → o ≡ p
