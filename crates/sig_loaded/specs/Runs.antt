-- What the command `run` comes to over told contents.
-- The refusals of the command are tried in the order in which the equations below stand.
use Rattle.std.specs.Prelude.{◌≡◌, ◌≢◌, ◌⊎◌, ◌≤◌, ◌<◌, ◌*◌, ◌++◌}
use Rattle.sig_loaded.specs.Prelude.{ℕ, ℤ, Bool, List, codes, length, Option, Some, refusal, Trace, CAPACITY_MAX, FLOW_BYTES, INSTANTS_MAX, ITEMS, PROGRAM_BYTES, WORKERS_MAX, Place, Signal, Contents, name_where_there, output_text, inputs_of, Kernel, LinkInfo, AreKernelLinks, Ended, IsKernelEnd, AreFlows, IsFirstBadPlace, flow_text, FlowAnswer, OutOfMemory, Settings, AtData, FindsData, Found, Holds, Outcome, refused, too_many_items, IsAboutData, IsAboutLinks, IsEnded, Task, Writes, memory_line, Refusal, IsAcceptedAs, AtPlan, HoldsBeyondBound, IsAboutPlan}
use Rattle.sig_loaded.specs.Ends.{end_line, end_status}

-- ---- the settings

-- the settings of a run are within their bounds
pub record AreWithinBounds (settings : Settings) : Type 0 where
  pub capacity : (1 ≤ settings.capacity) × (settings.capacity ≤ CAPACITY_MAX)
  pub workers : settings.workers ≤ WORKERS_MAX
  pub instants : settings.instants ≤ INSTANTS_MAX

-- ---- the links of the program

-- the links of a kernel, each of which holds so many items, hold together a number of items of which a fact holds
pub record HoldItems (kernel : Kernel) (capacity : ℕ) (Fact : ℕ → Type 0) : Type 0 where
  pub links : List LinkInfo
  pub are : AreKernelLinks kernel links
  pub fact : Fact (length links * capacity)

abbrev pub HoldTooMany : Kernel → ℕ → Type 0
HoldTooMany kernel capacity = HoldItems kernel capacity (λ items. ITEMS < items)

abbrev pub HoldFew : Kernel → ℕ → Type 0
HoldFew kernel capacity = HoldItems kernel capacity (λ items. items ≤ ITEMS)

-- where they hold too many items the command is refused, behind the file that was asked for last; else comes what follows
abbrev pub AtLinks : Kernel → ℕ → Option (List ℕ) → (Outcome → Type 0) → Outcome → Type 0
AtLinks kernel capacity file Next o =
    (HoldTooMany kernel capacity × (o ≡ refused 2 too_many_items file)) ⊎ (HoldFew kernel capacity × Next o)

-- ---- the flow file

-- the line, without its newline
abbrev pub bad_flows : List ℕ → FlowAnswer → List ℕ
bad_flows name answer = refusal (name ++ (codes ":" ++ flow_text answer))

-- such a line tells of a fault of the bytes, and not of memory that was wanting
abbrev pub IsFlowLine : (name line : List ℕ) → Type 0
IsFlowLine name line = (answer : FlowAnswer) × (answer ≢ OutOfMemory) × (line ≡ bad_flows name answer)

-- the bytes are refused as flows of these inputs, with this line
pub record RefusesFlows (name : List ℕ) (inputs : List Signal) (bytes line : List ℕ) : Type 0 where
  pub answer : FlowAnswer
  pub none : IsFirstBadPlace inputs bytes answer
  pub says : line ≡ bad_flows name answer

abbrev pub FindsFlows : Option (List ℕ) → List ℕ → List Signal → Found (List (List ℤ)) → Type 0
FindsFlows held name inputs found = FindsData (AreFlows inputs) (RefusesFlows name inputs) held found

abbrev pub AtFlows : Contents → List ℕ → List Signal → (List (List ℤ) → Outcome → Type 0) → Outcome → Type 0
AtFlows held name inputs Next o = AtData (AreFlows inputs) (RefusesFlows name inputs) held name Next o

-- ---- the run

-- the outcome of a run with this longest trace and this end
abbrev pub ended : Kernel → Trace → Ended → List ℕ → Outcome
ended kernel trace end file =
    record { text = output_text kernel trace; status = end_status end.cause; line = end_line kernel end; file = Some file }

-- The run of a kernel over flows, for at most so many instants: its text is that of the longest trace, and its line names
-- the cause why that is not longer.
pub record RunsTo (kernel : Kernel) (flows : List (List ℤ)) (limit : ℕ) (file : List ℕ) (o : Outcome) : Type 0 where
  pub trace : Trace
  pub place : Option Place
  pub end : Ended
  pub ends : IsKernelEnd kernel flows limit trace place end
  pub is : o ≡ ended kernel trace end file

-- ---- the command

-- a run over told contents comes to this, whatever the number of workers
abbrev pub RunComesTo : Contents → (program flows : List ℕ) → Settings → Outcome → Type 0
RunComesTo held program flows settings o =
    AtPlan settings.pace held program (λ kernel.
    AtLinks kernel settings.capacity (Some program) (
    AtFlows held flows (inputs_of kernel) (λ values. RunsTo kernel values settings.instants flows))) o

-- its statuses, the refusals that there may be, and the file that was begun last
abbrev pub IsRunStatus : ℕ → Type 0
IsRunStatus status =
    IsEnded status
    ⊎ ((status ≡ 6) ⊎ ((status ≡ 1) ⊎ ((status ≡ 2) ⊎ ((status ≡ 4) ⊎ ((status ≡ 5) ⊎ ((status ≡ 7) ⊎ (status ≡ 8)))))))

abbrev pub IsAboutFlows : List ℕ → Refusal → Type 0
IsAboutFlows flows r = IsAboutData flows (IsFlowLine flows) r

abbrev pub IsAboutRun : (program flows : List ℕ) → Refusal → Type 0
IsAboutRun program flows r = IsAboutPlan program r ⊎ (IsAboutLinks r ⊎ IsAboutFlows flows r)

abbrev pub HasBegunRun : Contents → (program flows : List ℕ) → Option (List ℕ) → Type 0
HasBegunRun held program flows at = (at ≡ name_where_there held program) ⊎ (at ≡ name_where_there held flows)

abbrev pub running : (program flows : List ℕ) → Settings → Task
running program flows settings = record {
  comes = λ held o. RunComesTo held program flows settings o;
  statuses = λ status. IsRunStatus status;
  about = λ r. IsAboutRun program flows r;
  begun = λ held at. HasBegunRun held program flows at;
  beyond = λ held. HoldsBeyondBound settings.pace (held program);
}

-- ---- what a run wrote

-- the text of the longest trace of a kernel and the line of the run's end were written, or a write failed
pub record WritesRun {S : Type 0} (kernel : Kernel) (flows : List (List ℤ)) (limit : ℕ) (took : S → List ℕ → S → Type 0) (out out' : S) (wrote wrote' : ℕ) (clean : Bool) (Said : List ℕ → Type 0) (status : ℕ) : Type 0 where
  pub trace : Trace
  pub place : Option Place
  pub end : Ended
  pub ends : IsKernelEnd kernel flows limit trace place end
  pub writes : Writes (output_text kernel trace) (end_line kernel end) (end_status end.cause) took out out' wrote wrote' clean Said status

-- there was no memory for a run: nothing was written, and a line says so
pub record LacksMemory {S : Type 0} (out out' : S) (Said : List ℕ → Type 0) (status : ℕ) : Type 0 where
  pub numbered : status ≡ 7
  pub untouched : out' ≡ out
  pub line : Said memory_line

-- A run came to its end: the program file holds an accepted program and the flow file flows of its inputs, the text of the
-- longest trace was taken, and the line was said that names the cause why that is not longer.
pub record HasRun (held : Contents) (program flows : List ℕ) (settings : Settings) (status : ℕ) (Took Said : List ℕ → Type 0) : Type 0 where
  pub kernel : Kernel
  pub accepted : Holds (held program) PROGRAM_BYTES (λ bytes. IsAcceptedAs settings.pace bytes kernel)
  pub values : List (List ℤ)
  pub read : Holds (held flows) FLOW_BYTES (λ bytes. AreFlows (inputs_of kernel) bytes values)
  pub trace : Trace
  pub place : Option Place
  pub end : Ended
  pub ends : IsKernelEnd kernel values settings.instants trace place end
  pub numbered : status ≡ end_status end.cause
  pub text : Took (output_text kernel trace)
  pub line : Said (end_line kernel end)
