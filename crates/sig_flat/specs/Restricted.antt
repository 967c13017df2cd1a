-- Traces restricted to some of the signals.
use Rattle.sig_flat.specs.Prelude.{ℕ, map, take, Trace}

-- what a trace says of the signals with the first numbers
abbrev pub restricted : ℕ → Trace → Trace
restricted count trace = map (take count) trace
