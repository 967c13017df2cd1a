-- Which programs the compiler accepts, and with which line it refuses the others: *Acceptance* and *Refusal*, over the bytes
-- of the program's file.
--
-- A program is accepted where its file has at most 1,048,576 bytes, these are the text of a well-formed program whose kernel
-- has at most 512 signals (`IsKernelText` of sig_front), and the kernel is accepted (`IsAcceptedKernel` of sig_plan): some
-- reaction is possible beside the silent one, there is a root, each clock is determined, no condition is forced, no
-- operation precedes itself, and at most 4,096 links are needed.
--
-- With the flag `--pace` the kernel of a program is what pacing makes of the kernel of its text (`IsPaced` of sig_pace): one
-- without a root gets a boolean input for each maximal clock. All else is the same, over this kernel.
--
-- A program is refused for the first of these rules that it does not meet, with the line that names it: its length, the first
-- refusal of the passes up to the kernel, a name that a pace takes or too many signals with the paces, or the first rule that
-- its kernel does not meet. No program is both, and a refused one has one line (the law `one_verdict`).
use Rattle.std.specs.Prelude.{◌≡◌, ◌⊎◌, ◌<◌, ◌≤◌, ◌++◌}
use Rattle.sig_program.specs.Prelude.{ℕ, Bool, true, false, List, codes, length, Some, slice_get, refusal_at, PROGRAM_BYTES, SIGNALS, Signal, FaultView, IsFaultOf, fault_line, shown, IsKernelText, IsNoKernelText, front_line, FrontAnswer, TooManySignals, IsValid, Kernel, AllByRecursion, IsSignalName, long_program, IsPaced, HasTooManySignals, IsNameTaken, IsAcceptedKernel}

-- the bytes are the text of a program with this kernel of its own, which is valid
pub record HasOwnKernel (bytes : List ℕ) (own : Kernel) : Type 0 where
  pub text : IsKernelText bytes own
  pub valid : IsValid own

-- what a program's own kernel becomes: with the flag for paces what pacing makes of it, without it stays as it is
abbrev pub Becomes : Bool → Kernel → Kernel → Type 0
Becomes true own kernel = IsPaced own kernel
Becomes false own kernel = kernel ≡ own

-- the bytes are the text of a program whose kernel is this, with the flag or without it; the kernel is valid
pub record HasKernel (pace : Bool) (bytes : List ℕ) (kernel : Kernel) : Type 0 where
  pub own : Kernel
  pub has : HasOwnKernel bytes own
  pub becomes : Becomes pace own kernel
  pub valid : IsValid kernel

-- The signals of a kernel have names of 1 to 1,048,576 bytes of printable ASCII without blanks, as those of a program's own
-- kernel have.
abbrev pub HasSignalNames : Kernel → Type 0
HasSignalNames kernel = AllByRecursion (λ signal. IsSignalName signal.name) kernel.signals

-- and the kernel is accepted
pub record IsAcceptedAs (pace : Bool) (bytes : List ℕ) (kernel : Kernel) : Type 0 where
  pub has : HasKernel pace bytes kernel
  pub accepted : IsAcceptedKernel kernel

-- *Acceptance*
pub record IsAcceptedProgram (pace : Bool) (bytes : List ℕ) : Type 0 where
  pub short : length bytes ≤ PROGRAM_BYTES
  pub kernel : Kernel
  pub is : IsAcceptedAs pace bytes kernel

-- ---- refusals, each with its line, without a newline

-- the passes up to the kernel refuse the text
pub record IsRefusedText (bytes line : List ℕ) : Type 0 where
  pub answer : FrontAnswer
  pub none : IsNoKernelText bytes answer
  pub says : line ≡ front_line answer

-- a declared signal has the name of a pace: the line says which, at its place
abbrev pub said_taken : List ℕ → List ℕ
said_taken name = codes "name " ++ (shown name ++ codes " is taken by a pace")

abbrev pub taken_line : Signal → List ℕ
taken_line signal = refusal_at signal.at (said_taken signal.name)

pub record SaysNameTaken (own : Kernel) (line : List ℕ) : Type 0 where
  pub signal : ℕ
  pub taken : IsNameTaken own signal
  pub named : Signal
  pub is : slice_get own.signals signal ≡ Some named
  pub says : line ≡ taken_line named

-- there would be more signals, with the paces, than there may be
pub record SaysTooManySignals (own : Kernel) (line : List ℕ) : Type 0 where
  pub many : HasTooManySignals own
  pub says : line ≡ front_line (TooManySignals SIGNALS)

-- a kernel gets no paces
abbrev pub IsUnpaced : Kernel → List ℕ → Type 0
IsUnpaced own line = SaysNameTaken own line ⊎ SaysTooManySignals own line

-- with the flag, the kernel of the text is to get paces, and gets none
pub record IsRefusedPacing (bytes line : List ℕ) : Type 0 where
  pub own : Kernel
  pub has : HasOwnKernel bytes own
  pub why : IsUnpaced own line

abbrev pub IsRefusedPace : Bool → List ℕ → List ℕ → Type 0
IsRefusedPace true bytes line = IsRefusedPacing bytes line
IsRefusedPace false bytes line = ⊥

-- the kernel of the program does not meet a rule
pub record IsRefusedKernel (pace : Bool) (bytes line : List ℕ) : Type 0 where
  pub kernel : Kernel
  pub has : HasKernel pace bytes kernel
  pub fault : FaultView
  pub told : IsFaultOf kernel fault
  pub says : line ≡ fault_line fault

-- bytes that are not too many are refused
abbrev pub AreRefused : Bool → List ℕ → List ℕ → Type 0
AreRefused pace bytes line = IsRefusedText bytes line ⊎ (IsRefusedPace pace bytes line ⊎ IsRefusedKernel pace bytes line)

-- *Refusal*
abbrev pub IsRefusedProgram : Bool → List ℕ → List ℕ → Type 0
IsRefusedProgram pace bytes line =
    ((PROGRAM_BYTES < length bytes) × (line ≡ long_program)) ⊎ ((length bytes ≤ PROGRAM_BYTES) × AreRefused pace bytes line)
