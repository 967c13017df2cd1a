-- What the command `load` comes to: a generated program is run over generated flows, and its text is counted.
-- The refusals of the command are tried in the order in which the equations below stand. It asks for no file.
use Rattle.std.specs.Prelude.{◌≡◌, ◌⊎◌, ◌≤◌, ◌<◌}
use Rattle.sig_load_command.specs.Prelude.{⊤, ℕ, ℤ, Bool, false, List, length, Option, None, Trace, FLOW_BYTES, INSTANTS_DEFAULT, PROGRAM_BYTES, Place, output_text, inputs_of, Kernel, Ended, IsKernelEnd, AreFlows, flows, program, Settings, Outcome, long_file, refused, IsEnded, Task, Writes, IsAcceptedAs, IsRefusedProgram, IsBeyondBound, end_line, end_status, AtLinks, RefusesFlows}
use Rattle.sig_load_command.specs.Refusals.{IsAboutLoad, flows_name}
use Rattle.sig_load_command.specs.inner.Summaries.{summary}

-- ---- the generated texts

-- bytes that are not too many are a program with this kernel, which is accepted
abbrev pub IsShortProgram : List ℕ → Kernel → Type 0
IsShortProgram bytes kernel = (length bytes ≤ PROGRAM_BYTES) × IsAcceptedAs false bytes kernel

-- and flows of a kernel's inputs with these values
abbrev pub IsShortFlows : Kernel → List ℕ → List (List ℤ) → Type 0
IsShortFlows kernel bytes values = (length bytes ≤ FLOW_BYTES) × AreFlows (inputs_of kernel) bytes values

-- the bytes are refused as a program, or what comes behind them is that of their kernel
abbrev pub AtProgramText : List ℕ → (Kernel → Outcome → Type 0) → Outcome → Type 0
AtProgramText bytes Next o =
    ((line : List ℕ) × IsRefusedProgram false bytes line × (o ≡ refused 1 line None))
    ⊎ ((kernel : Kernel) × IsShortProgram bytes kernel × Next kernel o)

-- the bytes are refused as flows of a kernel's inputs, or what comes behind them is that of their values
abbrev pub AtFlowsText : Kernel → List ℕ → (List (List ℤ) → Outcome → Type 0) → Outcome → Type 0
AtFlowsText kernel bytes Next o =
    ((FLOW_BYTES < length bytes) × (o ≡ refused 4 (long_file flows_name) None))
    ⊎ (((line : List ℕ) × (length bytes ≤ FLOW_BYTES) × RefusesFlows flows_name (inputs_of kernel) bytes line × (o ≡ refused 4 line None))
    ⊎ ((values : List (List ℤ)) × IsShortFlows kernel bytes values × Next values o))

-- ---- the run

-- the outcome of a run with this longest trace and this end
abbrev pub counted : ℕ → Kernel → Trace → Ended → Outcome
counted stages kernel trace end =
    record { text = summary stages end.instants (output_text kernel trace); status = end_status end.cause; line = end_line kernel end; file = None }

-- The run of a kernel over flows, for at most 1,000,000 instants: the text of the longest trace is counted, and the line names
-- the cause why that is not longer.
pub record LoadsTo (stages : ℕ) (kernel : Kernel) (values : List (List ℤ)) (o : Outcome) : Type 0 where
  pub trace : Trace
  pub place : Option Place
  pub end : Ended
  pub ends : IsKernelEnd kernel values INSTANTS_DEFAULT trace place end
  pub is : o ≡ counted stages kernel trace end

-- ---- the command

-- a load comes to this, whatever the number of workers
abbrev pub LoadComesTo : (seed stages : ℕ) → Settings → Outcome → Type 0
LoadComesTo seed stages settings o =
    AtProgramText (program stages) (λ kernel.
    AtLinks kernel settings.capacity None (
    AtFlowsText kernel (flows seed stages) (LoadsTo stages kernel))) o

-- its statuses
abbrev pub IsLoadStatus : ℕ → Type 0
IsLoadStatus status = IsEnded status ⊎ ((status ≡ 6) ⊎ ((status ≡ 1) ⊎ ((status ≡ 2) ⊎ ((status ≡ 4) ⊎ ((status ≡ 7) ⊎ (status ≡ 8))))))

abbrev pub loading : (seed stages : ℕ) → Settings → Task
loading seed stages settings = record {
  comes = λ held o. LoadComesTo seed stages settings o;
  statuses = λ status. IsLoadStatus status;
  about = λ r. IsAboutLoad r;
  begun = λ held at. ⊤;
  beyond = λ held. IsBeyondBound false (program stages);
}

-- ---- what a load wrote

-- the summary of a run of a kernel and the line of the run's end were written, or a write failed
pub record WritesLoad {S : Type 0} (stages : ℕ) (kernel : Kernel) (values : List (List ℤ)) (took : S → List ℕ → S → Type 0) (out out' : S) (wrote wrote' : ℕ) (clean : Bool) (Said : List ℕ → Type 0) (status : ℕ) : Type 0 where
  pub trace : Trace
  pub place : Option Place
  pub end : Ended
  pub ends : IsKernelEnd kernel values INSTANTS_DEFAULT trace place end
  pub writes : Writes (summary stages end.instants (output_text kernel trace)) (end_line kernel end) (end_status end.cause) took out out' wrote wrote' clean Said status
