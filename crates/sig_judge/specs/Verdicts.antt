-- Where a trace stops being one of a process.
use Rattle.std.specs.Prelude.{◌≡◌, ◌+◌, ◌++◌, ◌∷◌}
use Rattle.sig_judge.specs.Prelude.{ℕ, List, length, AllByRecursion, Instant, Trace, FlatEquation, FlatBody, HoldsAt, IsProcessTrace}
use Rattle.sig_judge.specs.declared.verdict.Verdict.{Verdict}
use Rattle.sig_judge.specs.declared.verdict.Verdict.TheVariants.{Accepted, Broken}

-- At this instant, counted from 1, a trace breaks this equation, counted from 1: the instants before are a
-- trace of the process, the instant satisfies the equations before, and does not satisfy this one.
pub record IsBroken (flat : FlatBody) (trace : Trace) (instant equation : ℕ) : Type 0 where
  pub front : Trace
  pub now : Instant
  pub rest : Trace
  pub trace_is : trace ≡ front ++ now ∷ rest
  pub instant_is : instant ≡ length front + 1
  pub good : IsProcessTrace flat front
  pub earlier : List FlatEquation
  pub broken : FlatEquation
  pub later : List FlatEquation
  pub equations_are : flat.equations ≡ earlier ++ broken ∷ later
  pub equation_is : equation ≡ length earlier + 1
  pub hold : AllByRecursion (HoldsAt trace (length front)) earlier
  pub breaks : HoldsAt trace (length front) broken → ⊥

-- what a verdict says
abbrev pub IsVerdict : FlatBody → Trace → Verdict → Type 0
IsVerdict flat trace Accepted = IsProcessTrace flat trace
IsVerdict flat trace (Broken instant equation) = IsBroken flat trace instant equation
