-- What is said of a call of the top, for every command.
use Rattle.std.specs.Prelude.{◌≡◌, ◌⊎◌}
use Rattle.sig_tool.specs.Prelude.{⊤, ℕ, false, List, Option, IfSome, Contents, name_where_there, IsCommand, Word, Command, Settings, Build, Check, Code, Exec, Judge, Load, Play, Print, Run, Tree, Outcome, IsDone, IsRefused, Task, Refusal, IsCodeText, IsTreeText, CompileComesTo, HoldsBeyondBound, IsBeyondBound, IsAboutPlan, IsCompileStatus, IsVerdictText, IsAboutText, IsPrintStatus, PrintComesTo, HasBegunJudge, IsAboutJudge, IsJudgeStatus, JudgeComesTo, HasBegunRun, IsAboutRun, IsRunStatus, RunComesTo, program as generated, IsLoadStatus, LoadComesTo, IsAboutLoad, HasBegunPlay, IsAboutPlay, PlayComesTo, BuildComesTo, IsAboutBuild, IsBuildStatus, ExecComesTo, HasBegunExec, HoldsBeyondVerifying, IsAboutExec, IsExecStatus}

-- ---- the command that the words are

-- the words are no command
abbrev pub AreNoCommand : List Word → Type 0
AreNoCommand words = (c : Command) → ¬ IsCommand words c

-- a fact of the command that the words are
abbrev pub OfCommand : List Word → (Command → Type 0) → Type 0
OfCommand words Fact = (c : Command) → IsCommand words c → Fact c

-- a fact of a run, if the words are one
abbrev pub OfRun : List Word → ((program flows : List ℕ) → Settings → Type 0) → Type 0
OfRun words Fact = (program flows : List ℕ) (settings : Settings) → IsCommand words (Run program flows settings) → Fact program flows settings

-- and of a play
abbrev pub OfPlay : List Word → ((program flows events : List ℕ) → Settings → Type 0) → Type 0
OfPlay words Fact = (program flows events : List ℕ) (settings : Settings) → IsCommand words (Play program flows events settings) → Fact program flows events settings

-- of a build
abbrev pub OfBuild : List Word → ((program : List ℕ) → Type 0) → Type 0
OfBuild words Fact = (program : List ℕ) → IsCommand words (Build program) → Fact program

-- and of a run of an image
abbrev pub OfExec : List Word → ((image flows : List ℕ) → Settings → Type 0) → Type 0
OfExec words Fact = (image flows : List ℕ) (settings : Settings) → IsCommand words (Exec image flows settings) → Fact image flows settings

-- a fact of a command that is a load
abbrev pub IfLoad : Command → ((seed stages : ℕ) → Settings → Type 0) → Type 0
IfLoad (Load seed stages settings) Fact = Fact seed stages settings
IfLoad _ Fact = ⊤

-- ---- what a command means

-- a command over told contents comes to this
abbrev pub ComesTo : Contents → Command → Outcome → Type 0
ComesTo held (Run program flows settings) o = RunComesTo held program flows settings o
ComesTo held (Play program flows events settings) o = PlayComesTo held program flows events settings o
ComesTo held (Check program pace) o = CompileComesTo IsVerdictText pace held program o
ComesTo held (Tree program pace) o = CompileComesTo IsTreeText pace held program o
ComesTo held (Code program pace) o = CompileComesTo IsCodeText pace held program o
ComesTo held (Print program) o = PrintComesTo held program o
ComesTo held (Judge program traces) o = JudgeComesTo held program traces o
ComesTo held (Load seed stages settings) o = LoadComesTo seed stages settings o
ComesTo held (Build program) o = BuildComesTo held program o
ComesTo held (Exec image flows settings) o = ExecComesTo held image flows settings o

-- a fact of what a command with told contents comes to
abbrev pub OfOutcome : Option Contents → Command → (Outcome → Type 0) → Type 0
OfOutcome contents c Fact = IfSome contents (λ held. (o : Outcome) → ComesTo held c o → Fact o)

-- the statuses that are answered, and those of a command
abbrev pub IsStatus : ℕ → Type 0
IsStatus status = IsDone status ⊎ (IsRefused status ⊎ (status ≡ 6))

abbrev pub IsStatusOf : Command → ℕ → Type 0
IsStatusOf (Run program flows settings) status = IsRunStatus status
IsStatusOf (Play program flows events settings) status = IsRunStatus status
IsStatusOf (Check program pace) status = IsCompileStatus status
IsStatusOf (Tree program pace) status = IsCompileStatus status
IsStatusOf (Code program pace) status = IsCompileStatus status
IsStatusOf (Print program) status = IsPrintStatus status
IsStatusOf (Judge program traces) status = IsJudgeStatus status
IsStatusOf (Load seed stages settings) status = IsLoadStatus status
IsStatusOf (Build program) status = IsBuildStatus status
IsStatusOf (Exec image flows settings) status = IsExecStatus status

-- a refusal may be one of a command
abbrev pub IsAbout : Command → Refusal → Type 0
IsAbout (Run program flows settings) r = IsAboutRun program flows r
IsAbout (Play program flows events settings) r = IsAboutPlay program flows events r
IsAbout (Check program pace) r = IsAboutPlan program r
IsAbout (Tree program pace) r = IsAboutPlan program r
IsAbout (Code program pace) r = IsAboutPlan program r
IsAbout (Print program) r = IsAboutText program r
IsAbout (Judge program traces) r = IsAboutJudge program traces r
IsAbout (Load seed stages settings) r = IsAboutLoad r
IsAbout (Build program) r = IsAboutBuild program r
IsAbout (Exec image flows settings) r = IsAboutExec image flows r

-- the file that was begun last is one of the command's; one that names none begins none
abbrev pub HasBegun : Contents → Command → Option (List ℕ) → Type 0
HasBegun held (Run program flows settings) at = HasBegunRun held program flows at
HasBegun held (Play program flows events settings) at = HasBegunPlay held program flows events at
HasBegun held (Check program pace) at = at ≡ name_where_there held program
HasBegun held (Tree program pace) at = at ≡ name_where_there held program
HasBegun held (Code program pace) at = at ≡ name_where_there held program
HasBegun held (Print program) at = at ≡ name_where_there held program
HasBegun held (Judge program traces) at = HasBegunJudge held program traces at
HasBegun held (Load seed stages settings) at = ⊤
HasBegun held (Build program) at = at ≡ name_where_there held program
HasBegun held (Exec image flows settings) at = HasBegunExec held image flows at

-- the program which a command compiles, or the image which it verifies, is not within the bound for which the nodes of a store
-- suffice
abbrev pub NeedsBeyondBound : Contents → Command → Type 0
NeedsBeyondBound held (Run program flows settings) = HoldsBeyondBound settings.pace (held program)
NeedsBeyondBound held (Play program flows events settings) = HoldsBeyondBound settings.pace (held program)
NeedsBeyondBound held (Check program pace) = HoldsBeyondBound pace (held program)
NeedsBeyondBound held (Tree program pace) = HoldsBeyondBound pace (held program)
NeedsBeyondBound held (Code program pace) = HoldsBeyondBound pace (held program)
NeedsBeyondBound held (Load seed stages settings) = IsBeyondBound false (generated stages)
NeedsBeyondBound held (Build program) = HoldsBeyondBound false (held program)
NeedsBeyondBound held (Exec image flows settings) = HoldsBeyondVerifying (held image)
NeedsBeyondBound held _ = ⊥

-- all of this, as what is asked for
abbrev pub task_of : Command → Task
task_of c = record {
  comes = λ held o. ComesTo held c o;
  statuses = λ status. IsStatusOf c status;
  about = λ r. IsAbout c r;
  begun = λ held at. HasBegun held c at;
  beyond = λ held. NeedsBeyondBound held c;
}
