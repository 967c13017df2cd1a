-- What the command `judge` comes to over told contents.
-- The refusals of the command are tried in the order in which the equations below stand.
use Rattle.std.specs.Fmt.{decimal}
use Rattle.std.specs.Prelude.{◌≡◌, ◌⊎◌, ◌++◌, ℕ, List, [], codes, Option, Some}
use Rattle.sig_base.specs.Lines.{refusal}
use Rattle.sig_base.specs.Traces.{Trace}
use Rattle.sig_base.specs.declared.signal.Signal.{Signal}
use Rattle.sig_text.specs.Files.{Contents, name_where_there}
use Rattle.sig_tree.specs.FlatSyntax.{FlatBody}
use Rattle.sig_front.specs.Flats.{IsFlatText, IsNoFlatText}
use Rattle.sig_front.specs.Shown.{front_line}
use Rattle.sig_front.specs.declared.answer.FrontAnswer.{FrontAnswer}
use Rattle.sig_judge.specs.Shown.{trace_text}
use Rattle.sig_judge.specs.TraceFiles.{IsFirstBadPlace, IsTraceFile}
use Rattle.sig_judge.specs.Verdicts.{IsVerdict}
use Rattle.sig_judge.specs.declared.trace_answer.TraceAnswer.{TraceAnswer}
use Rattle.sig_judge.specs.declared.verdict.Verdict.{Verdict}
use Rattle.sig_judge.specs.declared.verdict.Verdict.TheVariants.{Accepted, Broken}
use Rattle.sig_outcome.specs.Outcomes.{AtData, AtProgram, FindsData, FindsProgram, Found, Outcome}
use Rattle.sig_outcome.specs.Refusals.{IsAboutData, IsAboutProgram}
use Rattle.sig_outcome.specs.Tasks.{Task}
use Rattle.sig_outcome.specs.declared.refusal.Refusal.{Refusal}

-- ---- lines, without their newlines

abbrev pub bad_trace : List ℕ → TraceAnswer → List ℕ
bad_trace name answer = refusal (name ++ (codes ":" ++ trace_text answer))

abbrev pub broken : (instant equation : ℕ) → List ℕ
broken instant equation = refusal (codes "instant " ++ (decimal instant ++ (codes " breaks equation " ++ decimal equation)))

-- ---- the program file, for its flat body

-- the bytes are refused as the text of a program with a flat body, with this line
pub record RefusesFlat (bytes line : List ℕ) : Type 0 where
  pub answer : FrontAnswer
  pub none : IsNoFlatText bytes answer
  pub says : line ≡ front_line answer

abbrev pub FindsFlat : Option (List ℕ) → Found FlatBody → Type 0
FindsFlat held found = FindsProgram IsFlatText RefusesFlat held found

abbrev pub AtFlat : Contents → List ℕ → (FlatBody → Outcome → Type 0) → Outcome → Type 0
AtFlat held name Next o = AtProgram IsFlatText RefusesFlat held name Next o

-- ---- the trace file

-- the bytes are refused as a trace of these signals, with this line
pub record RefusesTrace (name : List ℕ) (signals : List Signal) (bytes line : List ℕ) : Type 0 where
  pub answer : TraceAnswer
  pub none : IsFirstBadPlace signals bytes answer
  pub says : line ≡ bad_trace name answer

abbrev pub FindsTrace : Option (List ℕ) → List ℕ → List Signal → Found Trace → Type 0
FindsTrace held name signals found = FindsData (IsTraceFile signals) (RefusesTrace name signals) held found

abbrev pub AtTrace : Contents → List ℕ → List Signal → (Trace → Outcome → Type 0) → Outcome → Type 0
AtTrace held name signals Next o = AtData (IsTraceFile signals) (RefusesTrace name signals) held name Next o

-- ---- the command

-- what is written of a verdict, with which status, and what is said of it
abbrev pub verdict_text : Verdict → List ℕ
verdict_text Accepted = codes "accepted\n"
verdict_text (Broken instant equation) = []

abbrev pub verdict_status : Verdict → ℕ
verdict_status Accepted = 0
verdict_status (Broken instant equation) = 9

abbrev pub verdict_line : Verdict → List ℕ
verdict_line Accepted = []
verdict_line (Broken instant equation) = broken instant equation ++ codes "\n"

-- what it comes to, behind the trace file
abbrev pub judged : Verdict → List ℕ → Outcome
judged verdict file =
    record { text = verdict_text verdict; status = verdict_status verdict; line = verdict_line verdict; file = Some file }

-- the verdict on a trace
pub record JudgesTo (flat : FlatBody) (trace : Trace) (file : List ℕ) (o : Outcome) : Type 0 where
  pub verdict : Verdict
  pub told : IsVerdict flat trace verdict
  pub is : o ≡ judged verdict file

-- the judging of a trace over told contents comes to this
abbrev pub JudgeComesTo : Contents → (program traces : List ℕ) → Outcome → Type 0
JudgeComesTo held program traces o =
    AtFlat held program (λ flat. AtTrace held traces flat.signals (λ trace. JudgesTo flat trace traces)) o

-- its statuses, the refusals that there may be, and the file that was begun last
abbrev pub IsJudgeStatus : ℕ → Type 0
IsJudgeStatus status =
    ((status ≡ 0) ⊎ (status ≡ 9)) ⊎ ((status ≡ 6) ⊎ ((status ≡ 1) ⊎ ((status ≡ 4) ⊎ ((status ≡ 5) ⊎ (status ≡ 7)))))

abbrev pub IsAboutFlat : List ℕ → Refusal → Type 0
IsAboutFlat program r = IsAboutProgram program (λ line. (answer : FrontAnswer) × (line ≡ front_line answer)) (λ nodes. ⊥) r

abbrev pub IsAboutTrace : List ℕ → Refusal → Type 0
IsAboutTrace traces r = IsAboutData traces (λ line. (answer : TraceAnswer) × (line ≡ bad_trace traces answer)) r

abbrev pub IsAboutJudge : (program traces : List ℕ) → Refusal → Type 0
IsAboutJudge program traces r = IsAboutFlat program r ⊎ IsAboutTrace traces r

abbrev pub HasBegunJudge : Contents → (program traces : List ℕ) → Option (List ℕ) → Type 0
HasBegunJudge held program traces at = (at ≡ name_where_there held program) ⊎ (at ≡ name_where_there held traces)

abbrev pub judging : (program traces : List ℕ) → Task
judging program traces = record {
  comes = λ held o. JudgeComesTo held program traces o;
  statuses = λ status. IsJudgeStatus status;
  about = λ r. IsAboutJudge program traces r;
  begun = λ held at. HasBegunJudge held program traces at;
  beyond = λ held. ⊥;
}
