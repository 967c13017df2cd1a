-- What a program file comes to for a command that needs its plan, with the flag for paces or without it, and what such a
-- command may refuse it for.
use Rattle.std.specs.Prelude.{◌≡◌, ◌⊎◌}
use Rattle.sig_program.specs.Prelude.{ℕ, Bool, true, false, List, Option, MeetsBound, MeetsUnknownBound, FaultView, fault_line, NODES, PROGRAM_BYTES, Signal, front_line, FrontAnswer, Kernel, Contents, AtProgram, FindsProgram, Found, Holds, Outcome, IsAboutProgram, Refusal}
use Rattle.sig_program.specs.Acceptance.{AreRefused, HasKernel, HasOwnKernel, IsAcceptedAs, taken_line}

-- the file holds an accepted program, or is refused
abbrev pub FindsAccepted : Bool → Option (List ℕ) → Found Kernel → Type 0
FindsAccepted pace held found = FindsProgram (IsAcceptedAs pace) (AreRefused pace) held found

abbrev pub AtPlan : Bool → Contents → List ℕ → (Kernel → Outcome → Type 0) → Outcome → Type 0
AtPlan pace held name Next o = AtProgram (IsAcceptedAs pace) (AreRefused pace) held name Next o

-- the statuses of a command that does no more than that and writes, and the refusals that there may be
abbrev pub IsCompileStatus : ℕ → Type 0
IsCompileStatus status = (status ≡ 0) ⊎ ((status ≡ 6) ⊎ ((status ≡ 1) ⊎ ((status ≡ 5) ⊎ ((status ≡ 7) ⊎ (status ≡ 8)))))

abbrev pub IsPlanLine : List ℕ → Type 0
IsPlanLine line =
    ((answer : FrontAnswer) × (line ≡ front_line answer))
    ⊎ (((signal : Signal) × (line ≡ taken_line signal)) ⊎ ((fault : FaultView) × (line ≡ fault_line fault)))

abbrev pub IsBudget : ℕ → Type 0
IsBudget nodes = nodes ≡ NODES

abbrev pub IsAboutPlan : List ℕ → Refusal → Type 0
IsAboutPlan program r = IsAboutProgram program IsPlanLine IsBudget r

-- with the flag, a program's own kernel is not within the bound for which the nodes of a store suffice to pace it
abbrev pub IsBeyondPaceBound : Bool → List ℕ → Type 0
IsBeyondPaceBound true bytes = (own : Kernel) × HasOwnKernel bytes own × (MeetsUnknownBound own → ⊥)
IsBeyondPaceBound false bytes = ⊥

-- a program that no pass up to its kernel refuses, whose kernel is not within the bound for which the nodes of a store suffice,
-- before it is paced or as it is compiled
abbrev pub IsBeyondBound : Bool → List ℕ → Type 0
IsBeyondBound pace bytes = IsBeyondPaceBound pace bytes ⊎ ((kernel : Kernel) × HasKernel pace bytes kernel × (MeetsBound kernel → ⊥))

-- a file holds such a program
abbrev pub HoldsBeyondBound : Bool → Option (List ℕ) → Type 0
HoldsBeyondBound pace held = Holds held PROGRAM_BYTES (IsBeyondBound pace)

-- the nodes do not suffice for the program that some bytes are
pub record LacksNodes (pace : Bool) (bytes : List ℕ) (nodes : ℕ) : Type 0 where
  pub number : nodes ≡ NODES
  pub beyond : IsBeyondBound pace bytes
