-- What is promised of a call for a command, whatever the command is.
use Rattle.std.specs.Prelude.{◌≡◌, ◌≢◌, ◌⊎◌, ◌++◌, ℕ, List, codes, Bool, Option, None, Some, IfSome, IsTrue}
use Rattle.sig_base.specs.Lines.{refusal}
use Rattle.sig_text.specs.Counts.{DidNotRise, Rose}
use Rattle.sig_text.specs.Files.{Contents, name_where_there}
use Rattle.sig_text.specs.Sink.{TookPrefix}
use Rattle.sig_outcome.specs.Outcomes.{Outcome, long_image, out_of_memory, too_many_items}
use Rattle.sig_outcome.specs.Refusals.{IsOwn, HasCount, line_of, outcome_of, status_of}
use Rattle.sig_outcome.specs.declared.refusal.Refusal.{Refusal}

-- ---- statuses

-- a run that came to its end
abbrev pub IsEnded : ℕ → Type 0
IsEnded status = (status ≡ 0) ⊎ (status ≡ 3)

-- a command that is done: all that is due was written
abbrev pub IsDone : ℕ → Type 0
IsDone status = IsEnded status ⊎ (status ≡ 9)

-- a command that was refused: nothing was written
abbrev pub IsRefused : ℕ → Type 0
IsRefused status = (status ≡ 1) ⊎ ((status ≡ 2) ⊎ ((status ≡ 4) ⊎ ((status ≡ 5) ⊎ ((status ≡ 7) ⊎ ((status ≡ 8) ⊎ (status ≡ 10))))))

-- the status that is answered where another is owed: that one; or 5, where a call of the files failed;
-- or 6, where a write failed of a command that was to be done; or 7; or 8, whose cause is the task's `beyond`
abbrev pub MayAnswer : ℕ → ℕ → Type 0 → Type 0 → Type 0
MayAnswer owed status ReadFailed WriteFailed =
    (status ≡ owed)
    ⊎ (((status ≡ 5) × ReadFailed) ⊎ (((status ≡ 6) × IsDone owed × WriteFailed) ⊎ ((status ≡ 7) ⊎ (status ≡ 8))))

-- ---- the line on standard error

-- a line was taken, and no more, where the sink's count of faults did not rise
abbrev pub SaysLine : {E : Type 0} → (E → List ℕ → E → Type 0) → ℕ → ℕ → E → E → List ℕ → Type 0
SaysLine took faults faults' before after line = DidNotRise faults faults' → took before line after

abbrev pub words_line : List ℕ
words_line = refusal (codes "these words are not a command") ++ codes "\n"

abbrev pub write_line : List ℕ
write_line = refusal (codes "write failed") ++ codes "\n"

abbrev pub memory_line : List ℕ
memory_line = out_of_memory ++ codes "\n"

abbrev pub items_line : List ℕ
items_line = too_many_items ++ codes "\n"

abbrev pub image_line : List ℕ
image_line = long_image ++ codes "\n"

-- ---- a command that is done, and one that is refused

-- what is told of the file that was begun last, once a command has asked for this file last, or for none
abbrev pub begun_after : Contents → Option (List ℕ) → Option (List ℕ) → Option (List ℕ)
begun_after held before None = before
begun_after held before (Some name) = name_where_there held name

-- a command that comes to such outcomes over told contents comes to one of this status, of which a fact of
-- its text and its line holds, and the file that it asked for last is the one that was begun last
pub record IsDue (Comes : Outcome → Type 0) (held : Contents) (before at : Option (List ℕ)) (status : ℕ) (Fact : List ℕ → List ℕ → Type 0) : Type 0 where
  pub outcome : Outcome
  pub comes : Comes outcome
  pub numbered : status ≡ outcome.status
  pub last : at ≡ begun_after held before outcome.file
  pub fact : Fact outcome.text outcome.line

-- such a command comes to this refusal, and the file that it asked for last is the one that was begun last
pub record Owes (Comes : Outcome → Type 0) (held : Contents) (before at : Option (List ℕ)) (r : Refusal) : Type 0 where
  pub file : Option (List ℕ)
  pub comes : Comes (outcome_of r file)
  pub last : at ≡ begun_after held before file

-- why a command was refused with this status: its line, the counts of misses and of faults, and, where
-- the contents alone decide, that it comes to this
pub record IsRefusedBy (Comes : Contents → Outcome → Type 0) (IsAbout : Refusal → Type 0) (contents : Option Contents) (before at : Option (List ℕ)) (misses misses' faults faults' status : ℕ) (Said : List ℕ → Type 0) : Type 0 where
  pub refusal : Refusal
  pub numbered : status ≡ status_of refusal
  pub line : Said (line_of refusal ++ codes "\n")
  pub about : IsAbout refusal
  pub count : HasCount contents at misses misses' faults faults' refusal
  pub owed : IsOwn refusal faults faults' → IfSome contents (λ held. Owes (Comes held) held before at refusal)

-- a write failed of a command that comes to such outcomes: it was to be done, and what was appended begins its text
pub record IsCut {S : Type 0} (Comes : Outcome → Type 0) (took : S → List ℕ → S → Type 0) (out out' : S) : Type 0 where
  pub outcome : Outcome
  pub comes : Comes outcome
  pub due : IsDone outcome.status
  pub prefix : TookPrefix took out outcome.text out'

-- ---- the contract

-- what a command asks for: what it comes to over told contents, its statuses, the refusals that there may be, which
-- file was begun last, and the contents with which the nodes of diagrams may not suffice
pub record Task : Type 1 where
  pub comes : Contents → Outcome → Type 0
  pub statuses : ℕ → Type 0
  pub about : Refusal → Type 0
  pub begun : Contents → Option (List ℕ) → Type 0
  pub beyond : Contents → Type 0

-- what is promised of a call for a task: of its status, of what is told of the files before and after it with their counts
-- of misses and of faults, of the output before and after it with its count of faults and whether it is flushed, and of
-- the line that was said
pub record Performs {S : Type 0} (task : Task) (contents : Option Contents) (before at : Option (List ℕ)) (misses misses' faults faults' : ℕ) (took : S → List ℕ → S → Type 0) (out out' : S) (wrote wrote' : ℕ) (clean : Bool) (Said : List ℕ → Type 0) (status : ℕ) : Type 0 where
  pub numbers : task.statuses status
  pub prefix : IfSome contents (λ held. (o : Outcome) → task.comes held o → TookPrefix took out o.text out')
  pub whole : IsDone status → IfSome contents (λ held. IsDue (task.comes held) held before at status (λ text line. took out text out' × Said line))
  pub flushed : IsDone status → IsTrue clean
  pub owed : IfSome contents (λ held. (o : Outcome) → task.comes held o → MayAnswer o.status status (Rose faults faults') (Rose wrote wrote'))
  pub budget : status ≡ 8 → IfSome contents (λ held. task.beyond held)
  pub refused : IsRefused status → IsRefusedBy task.comes task.about contents before at misses misses' faults faults' status Said
  pub untouched : IsRefused status → out' ≡ out
  pub begun : IfSome contents (λ held. task.begun held at)
  pub failed : status ≡ 6 → Rose wrote wrote'
  pub cut : status ≡ 6 → IfSome contents (λ held. IsCut (task.comes held) took out out')
  pub fault_line : status ≡ 6 → Said write_line
  pub memory_line : status ≡ 7 → Said memory_line
  pub items_line : status ≡ 2 → Said items_line
  pub image_line : status ≡ 10 → Said image_line

-- ---- what the parts of such a call promise

-- a text and a line are written, with this status: all of it was done, or a write failed with status 6
pub record Writes {S : Type 0} (text line : List ℕ) (wanted : ℕ) (took : S → List ℕ → S → Type 0) (out out' : S) (wrote wrote' : ℕ) (clean : Bool) (Said : List ℕ → Type 0) (status : ℕ) : Type 0 where
  pub numbers : (status ≡ wanted) ⊎ (status ≡ 6)
  pub prefix : TookPrefix took out text out'
  pub whole : status ≢ 6 → took out text out'
  pub says : status ≢ 6 → Said line
  pub flushed : status ≢ 6 → IsTrue clean
  pub failed : status ≡ 6 → Rose wrote wrote'
  pub fault_line : status ≡ 6 → Said write_line

-- a refusal ends a task: it may be one of the task, its cause is in the counts, and where the contents alone decide, the
-- task comes to it
pub record Stops (task : Task) (contents : Option Contents) (before at : Option (List ℕ)) (misses misses' faults faults' : ℕ) (r : Refusal) : Type 0 where
  pub about : task.about r
  pub counted : HasCount contents at misses misses' faults faults' r
  pub owed : IfSome contents (λ held. IsOwn r faults faults' → Owes (task.comes held) held before at r)
  pub budget : IfSome contents (λ held. status_of r ≡ 8 → task.beyond held)
  pub begun : IfSome contents (λ held. task.begun held at)

-- a task comes to an outcome, behind the file that was begun last
pub record Reaches (task : Task) (contents : Option Contents) (before at : Option (List ℕ)) (o : Outcome) : Type 0 where
  pub comes : IfSome contents (λ held. task.comes held o)
  pub last : IfSome contents (λ held. at ≡ begun_after held before o.file)
  pub begun : IfSome contents (λ held. task.begun held at)
