-- The refusals of a command whose files give nothing: their statuses, their lines and their causes.
use Rattle.std.specs.Prelude.{◌≡◌, ◌⊎◌, ⊤, ℕ, List, Option, Some, None, IfSome, string_bytes}
use Rattle.sig_text.specs.Counts.{Rose, DidNotRise}
use Rattle.sig_text.specs.Files.{Contents, name_where_there}
use Rattle.sig_text.specs.Read.{IsLongerThan}
use Rattle.sig_outcome.specs.Outcomes.{Outcome, refused, not_found, read_failed, no_nodes, long_program, too_many_items, long_file, long_image, out_of_memory}
use Rattle.sig_outcome.specs.declared.refusal.Refusal.{Refusal}
use Rattle.sig_outcome.specs.declared.refusal.Refusal.TheVariants.{Missing, ReadFault, LongProgram, Program, Budget, TooManyItems, LongFile, Data, LongImage, OutOfMemory}

-- the status of a refusal
abbrev pub status_of : Refusal → ℕ
status_of (Missing name) = 5
status_of (ReadFault name) = 5
status_of LongProgram = 1
status_of (Program line) = 1
status_of (Budget nodes) = 8
status_of TooManyItems = 2
status_of (LongFile name) = 4
status_of (Data line) = 4
status_of LongImage = 10
status_of OutOfMemory = 7

-- the line of a refusal, without its newline
abbrev pub line_of : Refusal → List ℕ
line_of (Missing name) = not_found name.now
line_of (ReadFault name) = read_failed name.now
line_of LongProgram = long_program
line_of (Program line) = string_bytes line
line_of (Budget nodes) = no_nodes nodes
line_of TooManyItems = too_many_items
line_of (LongFile name) = long_file name.now
line_of (Data line) = string_bytes line
line_of LongImage = long_image
line_of OutOfMemory = out_of_memory

-- the outcome that a refusal is, behind the file that was asked for last
abbrev pub outcome_of : Refusal → Option (List ℕ) → Outcome
outcome_of r file = refused (status_of r) (line_of r) file

-- a refusal that the contents alone decide, where no call failed between two counts of faults
abbrev pub IsOwn : Refusal → ℕ → ℕ → Type 0
IsOwn (Missing name) faults faults' = DidNotRise faults faults'
IsOwn (ReadFault name) faults faults' = ⊥
IsOwn LongProgram faults faults' = ⊤
IsOwn (Program line) faults faults' = ⊤
IsOwn (Budget nodes) faults faults' = ⊥
IsOwn TooManyItems faults faults' = ⊤
IsOwn (LongFile name) faults faults' = ⊤
IsOwn (Data line) faults faults' = ⊤
IsOwn LongImage faults faults' = ⊤
IsOwn OutOfMemory faults faults' = ⊥

-- a file of which a cause is known is the one that was begun last, where that is told
pub record IsLast (contents : Option Contents) (at : Option (List ℕ)) (Cause : Type 0) (name : List ℕ) : Type 0 where
  pub cause : Cause
  pub named : IfSome at (λ told. told ≡ name)
  pub told : IfSome contents (λ held. at ≡ name_where_there held name)

-- the cause of a refusal in the counts: misses rose where a file was not there, and faults where one
-- was not read; the line names the file that was begun last
abbrev pub HasCount : Option Contents → Option (List ℕ) → ℕ → ℕ → ℕ → ℕ → Refusal → Type 0
HasCount contents at misses misses' faults faults' (Missing name) = IsLast contents at (Rose misses misses') name.now
HasCount contents at misses misses' faults faults' (ReadFault name) = IsLast contents at (Rose faults faults') name.now
HasCount contents at misses misses' faults faults' LongProgram = ⊤
HasCount contents at misses misses' faults faults' (Program line) = ⊤
HasCount contents at misses misses' faults faults' (Budget nodes) = ⊤
HasCount contents at misses misses' faults faults' TooManyItems = ⊤
HasCount contents at misses misses' faults faults' (LongFile name) = ⊤
HasCount contents at misses misses' faults faults' (Data line) = ⊤
HasCount contents at misses misses' faults faults' LongImage = ⊤
HasCount contents at misses misses' faults faults' OutOfMemory = ⊤

-- ---- which refusals there may be

-- a refusal may be one of the program file of this name, whose bytes are refused with such a line, or for so many nodes
abbrev pub IsAboutProgram : List ℕ → (List ℕ → Type 0) → (ℕ → Type 0) → Refusal → Type 0
IsAboutProgram program IsLine IsBudget (Missing name) = name.now ≡ program
IsAboutProgram program IsLine IsBudget (ReadFault name) = name.now ≡ program
IsAboutProgram program IsLine IsBudget LongProgram = ⊤
IsAboutProgram program IsLine IsBudget (Program line) = IsLine (string_bytes line)
IsAboutProgram program IsLine IsBudget (Budget nodes) = IsBudget nodes
IsAboutProgram program IsLine IsBudget TooManyItems = ⊥
IsAboutProgram program IsLine IsBudget (LongFile name) = ⊥
IsAboutProgram program IsLine IsBudget (Data line) = ⊥
IsAboutProgram program IsLine IsBudget LongImage = ⊥
IsAboutProgram program IsLine IsBudget OutOfMemory = ⊤

-- a refusal may be one of the flow file or the trace file of this name, whose bytes are refused with such a line
abbrev pub IsAboutData : List ℕ → (List ℕ → Type 0) → Refusal → Type 0
IsAboutData data_file IsLine (Missing name) = name.now ≡ data_file
IsAboutData data_file IsLine (ReadFault name) = name.now ≡ data_file
IsAboutData data_file IsLine LongProgram = ⊥
IsAboutData data_file IsLine (Program line) = ⊥
IsAboutData data_file IsLine (Budget nodes) = ⊥
IsAboutData data_file IsLine TooManyItems = ⊥
IsAboutData data_file IsLine (LongFile name) = name.now ≡ data_file
IsAboutData data_file IsLine (Data line) = IsLine (string_bytes line)
IsAboutData data_file IsLine LongImage = ⊥
IsAboutData data_file IsLine OutOfMemory = ⊤

-- a refusal is that of a program whose links hold too many items
abbrev pub IsAboutLinks : Refusal → Type 0
IsAboutLinks (Missing name) = ⊥
IsAboutLinks (ReadFault name) = ⊥
IsAboutLinks LongProgram = ⊥
IsAboutLinks (Program line) = ⊥
IsAboutLinks (Budget nodes) = ⊥
IsAboutLinks TooManyItems = ⊤
IsAboutLinks (LongFile name) = ⊥
IsAboutLinks (Data line) = ⊥
IsAboutLinks LongImage = ⊥
IsAboutLinks OutOfMemory = ⊥

-- a refusal may be one of the image file of this name, whose bytes are refused with such a line, or for so many nodes
abbrev pub IsAboutImage : List ℕ → (List ℕ → Type 0) → (ℕ → Type 0) → Refusal → Type 0
IsAboutImage image_file IsLine IsBudget (Missing name) = name.now ≡ image_file
IsAboutImage image_file IsLine IsBudget (ReadFault name) = name.now ≡ image_file
IsAboutImage image_file IsLine IsBudget LongProgram = ⊥
IsAboutImage image_file IsLine IsBudget (Program line) = ⊥
IsAboutImage image_file IsLine IsBudget (Budget nodes) = IsBudget nodes
IsAboutImage image_file IsLine IsBudget TooManyItems = ⊥
IsAboutImage image_file IsLine IsBudget (LongFile name) = name.now ≡ image_file
IsAboutImage image_file IsLine IsBudget (Data line) = IsLine (string_bytes line)
IsAboutImage image_file IsLine IsBudget LongImage = ⊥
IsAboutImage image_file IsLine IsBudget OutOfMemory = ⊤

-- a refusal is one of the bytes of a program: such a line, or so many nodes; or memory was wanting
abbrev pub IsOfProgram : (List ℕ → Type 0) → (ℕ → Type 0) → Refusal → Type 0
IsOfProgram IsLine IsBudget (Missing name) = ⊥
IsOfProgram IsLine IsBudget (ReadFault name) = ⊥
IsOfProgram IsLine IsBudget LongProgram = ⊥
IsOfProgram IsLine IsBudget (Program line) = IsLine (string_bytes line)
IsOfProgram IsLine IsBudget (Budget nodes) = IsBudget nodes
IsOfProgram IsLine IsBudget TooManyItems = ⊥
IsOfProgram IsLine IsBudget (LongFile name) = ⊥
IsOfProgram IsLine IsBudget (Data line) = ⊥
IsOfProgram IsLine IsBudget LongImage = ⊥
IsOfProgram IsLine IsBudget OutOfMemory = ⊤

-- a refusal is one of the bytes of a flow file or a trace file
abbrev pub IsOfData : (List ℕ → Type 0) → Refusal → Type 0
IsOfData IsLine (Missing name) = ⊥
IsOfData IsLine (ReadFault name) = ⊥
IsOfData IsLine LongProgram = ⊥
IsOfData IsLine (Program line) = ⊥
IsOfData IsLine (Budget nodes) = ⊥
IsOfData IsLine TooManyItems = ⊥
IsOfData IsLine (LongFile name) = ⊥
IsOfData IsLine (Data line) = IsLine (string_bytes line)
IsOfData IsLine LongImage = ⊥
IsOfData IsLine OutOfMemory = ⊤

-- a refusal is one of the bytes of an image file: such a line, or so many nodes; or memory was wanting
abbrev pub IsOfImage : (List ℕ → Type 0) → (ℕ → Type 0) → Refusal → Type 0
IsOfImage IsLine IsBudget (Missing name) = ⊥
IsOfImage IsLine IsBudget (ReadFault name) = ⊥
IsOfImage IsLine IsBudget LongProgram = ⊥
IsOfImage IsLine IsBudget (Program line) = ⊥
IsOfImage IsLine IsBudget (Budget nodes) = IsBudget nodes
IsOfImage IsLine IsBudget TooManyItems = ⊥
IsOfImage IsLine IsBudget (LongFile name) = ⊥
IsOfImage IsLine IsBudget (Data line) = IsLine (string_bytes line)
IsOfImage IsLine IsBudget LongImage = ⊥
IsOfImage IsLine IsBudget OutOfMemory = ⊤

-- a refusal is that of an image that is too long, which this one is; or memory was wanting
abbrev pub IsOfLength : Type 0 → Refusal → Type 0
IsOfLength IsLong (Missing name) = ⊥
IsOfLength IsLong (ReadFault name) = ⊥
IsOfLength IsLong LongProgram = ⊥
IsOfLength IsLong (Program line) = ⊥
IsOfLength IsLong (Budget nodes) = ⊥
IsOfLength IsLong TooManyItems = ⊥
IsOfLength IsLong (LongFile name) = ⊥
IsOfLength IsLong (Data line) = ⊥
IsOfLength IsLong LongImage = IsLong
IsOfLength IsLong OutOfMemory = ⊤

-- ---- a file that gives no bytes

-- a file is not there or too long, and this is what it ends a command with
abbrev pub AtNoBytes : ℕ → ℕ → List ℕ → Contents → List ℕ → Outcome → Type 0
AtNoBytes limit status long held name o =
    ((held name ≡ None) × (o ≡ refused 5 (not_found name) (Some name))) ⊎ (IsLongerThan (held name) limit × (o ≡ refused status long (Some name)))
