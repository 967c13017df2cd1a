-- What the command `print` comes to over told contents.
use Rattle.std.specs.Prelude.{◌≡◌, ◌⊎◌}
use Rattle.sig_compile_command.specs.Prelude.{ℕ, List, front_line, IsNoText, FrontAnswer, canonical_text, Contents, name_where_there, IsText, ProcessModel, AtProgram, Outcome, done, IsAboutProgram, Task, Refusal}

-- ---- the program file, for its text alone

-- the bytes are refused as the text of a program, with this line
pub record RefusesText (bytes line : List ℕ) : Type 0 where
  pub answer : FrontAnswer
  pub none : IsNoText bytes answer
  pub says : line ≡ front_line answer

abbrev pub AtText : Contents → List ℕ → (List ProcessModel → Outcome → Type 0) → Outcome → Type 0
AtText held name Next o = AtProgram IsText RefusesText held name Next o

-- ---- the command

-- the canonical text of a program over told contents comes to this
abbrev pub PrintComesTo : Contents → List ℕ → Outcome → Type 0
PrintComesTo held program o = AtText held program (λ tree o. o ≡ done (canonical_text tree) program) o

-- its statuses, and the refusals that there may be
abbrev pub IsPrintStatus : ℕ → Type 0
IsPrintStatus status = (status ≡ 0) ⊎ ((status ≡ 6) ⊎ ((status ≡ 1) ⊎ ((status ≡ 5) ⊎ (status ≡ 7))))

abbrev pub IsFrontLine : List ℕ → Type 0
IsFrontLine line = (answer : FrontAnswer) × (line ≡ front_line answer)

abbrev pub IsAboutText : List ℕ → Refusal → Type 0
IsAboutText program r = IsAboutProgram program IsFrontLine (λ nodes. ⊥) r

abbrev pub printing : List ℕ → Task
printing program = record {
  comes = λ held o. PrintComesTo held program o;
  statuses = λ status. IsPrintStatus status;
  about = λ r. IsAboutText program r;
  begun = λ held at. at ≡ name_where_there held program;
  beyond = λ held. ⊥;
}

-- ---- a text

-- a text is the canonical one of the program that some bytes are
pub record IsPrintedText (bytes text : List ℕ) : Type 0 where
  pub tree : List ProcessModel
  pub is : IsText bytes tree
  pub printed : text ≡ canonical_text tree
