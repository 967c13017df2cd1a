-- What is left of an instant of a kernel where the values of integers are left out.
use Rattle.std.specs.Prelude.{◌∷◌}
use Rattle.sig_clock.specs.Prelude.{ℤ, pos, Bool, true, List, [], Option, None, Some, int_eq, Instant, Seen, Kind, Integer, Boolean, Signal}
use Rattle.sig_base.specs.declared.ids.Kind.TheVariants.{Event}
use Rattle.sig_clock.specs.Reactions.{Reaction, Status}

-- the truth of a value: that of a boolean is whether it is 1
abbrev pub truth_of_value : Kind → ℤ → Bool
truth_of_value Integer v = true
truth_of_value Boolean v = int_eq v (pos 1)
truth_of_value Event v = true

abbrev pub status_of : Kind → Seen → Status
status_of kind None = None
status_of kind (Some v) = Some (truth_of_value kind v)

-- the statuses of signals at an instant
abbrev pub abstraction_of : List Signal → Instant → Reaction
abstraction_of [] instant = []
abstraction_of (signal ∷ signals) [] = []
abstraction_of (signal ∷ signals) (seen ∷ instant) = status_of signal.kind seen ∷ abstraction_of signals instant
