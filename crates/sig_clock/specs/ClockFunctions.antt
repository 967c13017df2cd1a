-- Clock functions: the presence of a signal as a function of the truths of the conditions.
use Rattle.std.specs.Prelude.{◌≡◌, ◌<◌}
use Rattle.sig_clock.specs.Prelude.{ℕ, Bool, true, List, length, Option, None, Some, slice_get, IfSome, SigId, truth_of, Kernel}
use Rattle.sig_clock.specs.Reactions.{Reaction, Status, Speaks, is_present, status_at}

-- a signal has the truth that is proposed, or is absent
abbrev pub Allows : Status → Bool → Type 0
Allows None truth = Unit {0}
Allows (Some b) truth = b ≡ truth

-- A proposal is one truth for each condition; these are in an order. A reaction keeps to it: its present
-- conditions have the proposed truths.
abbrev pub KeepsTo : List SigId → List Bool → Reaction → Type 0
KeepsTo conditions proposal reaction = (v : ℕ) (condition : SigId) → slice_get conditions v ≡ Some condition
    → Allows (status_at reaction condition.0) (truth_of proposal v)

-- a function of proposals is the clock function of a signal: for each proposal it tells the presence of the signal in
-- the reactions that are not silent and keep to it
abbrev pub IsClockFunction : Kernel → List SigId → ℕ → (List Bool → Bool) → Type 0
IsClockFunction kernel conditions signal function = (proposal : List Bool) (reaction : Reaction) → Speaks kernel reaction
    → KeepsTo conditions proposal reaction → is_present reaction signal ≡ function proposal
