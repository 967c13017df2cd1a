-- What a core tells of its state.
use Rattle.sig_interleaving.specs.Prelude.{ℕ, ℤ, List, length, Option, None, Some, Actor}
use Rattle.sig_interleaving.specs.declared.answer.ActorState.{ActorState}

-- how far an actor is
abbrev pub state_in : Option Actor → Option ActorState
state_in None = None
state_in (Some actor) = Some (record { instant = actor.instant; step = actor.step; ended = actor.ended })

-- how many items a link holds
abbrev pub length_in : Option (List ℤ) → Option ℕ
length_in None = None
length_in (Some items) = Some (length items)
