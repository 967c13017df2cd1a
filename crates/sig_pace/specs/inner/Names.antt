-- Signals that have the name of one of some others.
use Rattle.std.specs.Prelude.{◌≡◌, ◌<◌}
use Rattle.sig_pace.specs.Prelude.{ℕ, true, false, Bool, List, Option, None, Some, bytes_eq, slice_get, list_any, SigId, Signal}

abbrev pub is_named : List Signal → Signal → Bool
is_named others signal = list_any (λ other. bytes_eq signal.name other.name) others

-- no signal before this number has the name of one of the others
abbrev pub NoneNamedBelow : List Signal → List Signal → ℕ → Type 0
NoneNamedBelow signals others number = (s : ℕ) (signal : Signal) → s < number → slice_get signals s ≡ Some signal → is_named others signal ≡ false

-- the first signal that has the name of one of the others, or none has
abbrev pub FindsNamed : List Signal → List Signal → Option SigId → Type 0
FindsNamed signals others None = (s : ℕ) (signal : Signal) → slice_get signals s ≡ Some signal → is_named others signal ≡ false
FindsNamed signals others (Some x) = (signal : Signal) × (slice_get signals x.0 ≡ Some signal) × (is_named others signal ≡ true) × NoneNamedBelow signals others x.0
