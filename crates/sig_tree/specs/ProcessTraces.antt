-- The traces of a process: each of its definitions and clock equations holds at each instant.
use Rattle.std.specs.Prelude.{◌⊎◌, ◌<◌}
use Rattle.sig_tree.specs.Prelude.{ℕ, ℤ, List, length, map, None, Some, AllByRecursion, Kind, Signal, Trace, Bounded, AreOfKinds, seen_at}
use Rattle.sig_tree.specs.FlatSyntax.{FlatEquation, Defines, Equal, FlatBody}
use Rattle.sig_tree.specs.Meaning.{Means, instant_at}

-- the kinds of signals, by number
abbrev pub kinds_of : List Signal → List Kind
kinds_of signals = map (λ signal. signal.kind) signals

-- A definition holds where the signal is what the right side means; a clock equation holds where each
-- operand has a meaning, and all of them are absent or none is.
abbrev pub HoldsAt : Trace → ℕ → FlatEquation → Type 0
HoldsAt trace i (Defines signal e prefix) = Means e trace i (seen_at (instant_at trace i) signal)
HoldsAt trace i (Equal operands prefix) = AllByRecursion (λ e. Means e trace i None) operands
    ⊎ AllByRecursion (λ e. (v : ℤ) × Means e trace i (Some v)) operands

-- one entry for each signal, absent or of its kind, at each instant
abbrev pub IsTraceOf : List Signal → Trace → Type 0
IsTraceOf signals trace = AllByRecursion (AreOfKinds Bounded (kinds_of signals)) trace

-- equations hold at each instant of a trace
abbrev pub HoldThroughout : List FlatEquation → Trace → Type 0
HoldThroughout equations trace = (i : ℕ) → i < length trace → AllByRecursion (HoldsAt trace i) equations

-- a trace of the process of a flat body
pub record IsProcessTrace (flat : FlatBody) (trace : Trace) : Type 0 where
  pub kinds : IsTraceOf flat.signals trace
  pub holds : HoldThroughout flat.equations trace
