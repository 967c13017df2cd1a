-- What is remembered for signals, and an actor in the next instant.
use Rattle.std.specs.Prelude.{◌+◌}
use Rattle.sig_values.specs.Prelude.{ℕ, ℤ, pos, List, slice_index_or, Actor, no_registers}

-- what is remembered for each signal
abbrev pub memories_in : List ℤ → ℕ → ℤ
memories_in memories signal = slice_index_or memories signal (pos 0)

-- an actor in the next instant, before the first step
abbrev pub at_next : Actor → Actor
at_next actor = record actor { instant = actor.instant + 1; step = 0; registers = no_registers }
