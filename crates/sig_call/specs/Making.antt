-- A flat body as it is made.
use Rattle.std.specs.Prelude.{◌≡◌, ◌++◌, ◌<◌, ◌≤◌}
use Rattle.sig_call.specs.Prelude.{ℕ, List, map, length, Result, Ok, Err, ⊤, SIGNALS, Signal, Equations, ProcessModel, FlatEquation, FlatBody, Declaration, pragmas_of_model, Copy, Progress, Expands, IsFlatBody, cluster_of}
use Rattle.sig_call.specs.declared.answer.CallAnswer.{CallAnswer}
use Rattle.sig_call.specs.declared.answer.CallAnswer.TheVariants.{TooManySignals, OutOfMemory}

-- how far the expansion is, and the equations so far
pub record Made : Type 0 where
  pub progress : Progress
  pub equations : List FlatEquation

abbrev pub with_signals : Made → List Signal → Made
with_signals made signals = record { progress = record { calls = made.progress.calls; signals = made.progress.signals ++ signals }; equations = made.equations }

abbrev pub with_equations : Made → List FlatEquation → Made
with_equations made equations = record { progress = made.progress; equations = made.equations ++ equations }

abbrev pub with_progress : Made → Progress → Made
with_progress made progress = record { progress = progress; equations = made.equations }

-- copies of declared signals of a process
abbrev pub signal_copied : (prefix : List ℕ) → (cluster : ℕ) → ProcessModel → Declaration → Signal
signal_copied prefix cluster p d = record {
  name = prefix ++ d.name.text;
  kind = d.kind;
  cluster = cluster_of cluster (pragmas_of_model p) d.name.text;
  at = d.name.at;
}

abbrev pub signals_copied : (prefix : List ℕ) → (cluster : ℕ) → ProcessModel → List Declaration → List Signal
signals_copied prefix cluster p declared = map (signal_copied prefix cluster p) declared

-- equations lead from one progress to another, by these flat equations: what stands behind them is expanded from there
pub record Leads (all : List ProcessModel) (copy : Copy) (equations : List Equations) (before after : Progress) (flat : List FlatEquation) : Type 0 where
  pub there : (rest : List Equations) (end : Progress) (later : List FlatEquation)
      → Expands all copy rest after end later → Expands all copy (equations ++ rest) before end (flat ++ later)
  pub back : (rest : List Equations) (end : Progress) (whole : List FlatEquation)
      → Expands all copy (equations ++ rest) before end whole → (later : List FlatEquation) × Expands all copy rest after end later

-- equations were expanded
pub record Advances (all : List ProcessModel) (copy : Copy) (equations : List Equations) (before after : Made) : Type 0 where
  pub flat : List FlatEquation
  pub added : after.equations ≡ before.equations ++ flat
  pub leads : Leads all copy equations before.progress after.progress flat
  pub grows : length before.progress.signals ≤ length after.progress.signals

-- each expansion of equations, and of any behind them, has more than `SIGNALS` signals
abbrev pub NeedsMore : List ProcessModel → Copy → List Equations → Progress → Type 0
NeedsMore all copy equations before = (rest : List Equations) (end : Progress) (whole : List FlatEquation)
    → Expands all copy (equations ++ rest) before end whole → SIGNALS < length end.signals

-- what is so where an answer refuses, by the limit, and not for want of memory
abbrev pub IsRefusedBy : CallAnswer → Type 0 → Type 0
IsRefusedBy (TooManySignals limit) Cause = (limit ≡ SIGNALS) × Cause
IsRefusedBy OutOfMemory Cause = ⊤

abbrev pub IsRefused : {A : Type 0} → Result A CallAnswer → Type 0 → Type 0
IsRefused (Ok value) Cause = ⊤
IsRefused (Err answer) Cause = IsRefusedBy answer Cause

-- a program has a flat body, which has more than `SIGNALS` signals
pub record NeedsTooMany (program : List ProcessModel) : Type 0 where
  pub some : (flat : FlatBody) × IsFlatBody program flat
  pub each : (flat : FlatBody) → IsFlatBody program flat → SIGNALS < length flat.signals
