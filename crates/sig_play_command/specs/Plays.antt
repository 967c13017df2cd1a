-- What the command `play` comes to over told contents: events of all actors happen one after another, the state that they
-- leave is written, and the run is finished from there.
-- The refusals of the command are tried in the order in which the equations below stand.
use Rattle.std.specs.Prelude.{◌≡◌, ◌⊎◌}
use Rattle.sig_play_command.specs.Prelude.{ℕ, ℤ, Bool, List, map, Option, Some, Trace, FLOW_BYTES, PROGRAM_BYTES, Place, Contents, name_where_there, inputs_of, Kernel, PlanView, Ended, IsKernelEnd, IsPlanOf, Core, after, run_of, AreEvents, AreFlows, FileEvent, Settings, Holds, Outcome, Task, Writes, Refusal, IsAcceptedAs, AtPlan, HoldsBeyondBound, end_line, end_status, AtFlows, AtLinks, HasBegunRun, IsAboutRun, IsRunStatus}
use Rattle.sig_play_command.specs.inner.EventFiles.{AtEvents, IsAboutEvents, happens}
use Rattle.sig_play_command.specs.inner.Happening.{IsRest, played_text}

-- ---- the play

-- the state that the events of a file leave, over links of a capacity and up to a limit of instants
abbrev pub left_by : PlanView → List (List ℤ) → (capacity limit : ℕ) → List FileEvent → Core
left_by plan flows capacity limit events = after (run_of plan flows capacity limit) (map happens events)

-- the outcome of a play that leaves this state, with what is missing there of the text of the longest trace, and this end
abbrev pub played : Kernel → Core → List ℕ → Ended → List ℕ → Outcome
played kernel left rest end file =
    record { text = played_text kernel left rest; status = end_status end.cause; line = end_line kernel end; file = Some file }

-- The play of events at the actors of a kernel over flows. Its text is what the events commit, the state that they leave and
-- what is missing there of the text of the longest trace; its line names the cause why that trace is not longer. The events
-- happen at a plan of the kernel: each accepted kernel has one, and they leave one state at all of them, since plans differ in
-- the references of their guards alone.
pub record PlaysTo (kernel : Kernel) (flows : List (List ℤ)) (capacity limit : ℕ) (file : List ℕ) (events : List FileEvent) (o : Outcome) : Type 0 where
  pub plan : PlanView
  pub planned : IsPlanOf kernel plan
  pub trace : Trace
  pub place : Option Place
  pub end : Ended
  pub ends : IsKernelEnd kernel flows limit trace place end
  pub rest : List ℕ
  pub missing : IsRest kernel (left_by plan flows capacity limit events) trace rest
  pub is : o ≡ played kernel (left_by plan flows capacity limit events) rest end file

-- ---- the command

-- a play over told contents comes to this
abbrev pub PlayComesTo : Contents → (program flows events : List ℕ) → Settings → Outcome → Type 0
PlayComesTo held program flows events settings o =
    AtPlan settings.pace held program (λ kernel.
    AtLinks kernel settings.capacity (Some program) (
    AtFlows held flows (inputs_of kernel) (λ values.
    AtEvents held events (λ happening. PlaysTo kernel values settings.capacity settings.instants events happening)))) o

-- its statuses are those of a run; the refusals that there may be, and the file that was begun last
abbrev pub IsAboutPlay : (program flows events : List ℕ) → Refusal → Type 0
IsAboutPlay program flows events r = IsAboutRun program flows r ⊎ IsAboutEvents events r

abbrev pub HasBegunPlay : Contents → (program flows events : List ℕ) → Option (List ℕ) → Type 0
HasBegunPlay held program flows events at = HasBegunRun held program flows at ⊎ (at ≡ name_where_there held events)

abbrev pub playing : (program flows events : List ℕ) → Settings → Task
playing program flows events settings = record {
  comes = λ held o. PlayComesTo held program flows events settings o;
  statuses = λ status. IsRunStatus status;
  about = λ r. IsAboutPlay program flows events r;
  begun = λ held at. HasBegunPlay held program flows events at;
  beyond = λ held. HoldsBeyondBound settings.pace (held program);
}

-- ---- what a play wrote

-- the text of a play and the line of its end were written, or a write failed
pub record WritesPlay {S : Type 0} (kernel : Kernel) (flows : List (List ℤ)) (capacity limit : ℕ) (events : List FileEvent) (took : S → List ℕ → S → Type 0) (out out' : S) (wrote wrote' : ℕ) (clean : Bool) (Said : List ℕ → Type 0) (status : ℕ) : Type 0 where
  pub plan : PlanView
  pub planned : IsPlanOf kernel plan
  pub trace : Trace
  pub place : Option Place
  pub end : Ended
  pub ends : IsKernelEnd kernel flows limit trace place end
  pub rest : List ℕ
  pub missing : IsRest kernel (left_by plan flows capacity limit events) trace rest
  pub writes : Writes (played_text kernel (left_by plan flows capacity limit events) rest) (end_line kernel end) (end_status end.cause) took out out' wrote wrote' clean Said status

-- A play came to its end: the program file holds an accepted program, the flow file flows of its inputs, and the event file
-- these events. What was taken is the text of what the events commit, the state that they leave and what is missing there of
-- the text of the longest trace; and the line was said that names the cause why that trace is not longer.
pub record HasPlay (held : Contents) (program flows events : List ℕ) (settings : Settings) (status : ℕ) (Took Said : List ℕ → Type 0) : Type 0 where
  pub kernel : Kernel
  pub accepted : Holds (held program) PROGRAM_BYTES (λ bytes. IsAcceptedAs settings.pace bytes kernel)
  pub values : List (List ℤ)
  pub read : Holds (held flows) FLOW_BYTES (λ bytes. AreFlows (inputs_of kernel) bytes values)
  pub happening : List FileEvent
  pub said : Holds (held events) FLOW_BYTES (λ bytes. AreEvents bytes happening)
  pub plan : PlanView
  pub planned : IsPlanOf kernel plan
  pub trace : Trace
  pub place : Option Place
  pub end : Ended
  pub ends : IsKernelEnd kernel values settings.instants trace place end
  pub rest : List ℕ
  pub missing : IsRest kernel (left_by plan values settings.capacity settings.instants happening) trace rest
  pub numbered : status ≡ end_status end.cause
  pub text : Took (played_text kernel (left_by plan values settings.capacity settings.instants happening) rest)
  pub line : Said (end_line kernel end)
