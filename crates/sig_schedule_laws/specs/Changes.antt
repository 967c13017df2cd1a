-- Events that change the state, and how far all actors have gone.
use Rattle.std.specs.Prelude.{◌+◌, ◌-◌, ◌*◌, ◌∷◌, if◌then◌else◌}
use Rattle.sig_schedule_laws.specs.Prelude.{ℕ, List, [], length, ⊤, Actor, Core, Given, IsEnabled, stepped, Event, CodeView}

-- each event changes the state that those before it leave
abbrev pub AllChange : Given → Core → List Event → Type 0
AllChange given core [] = ⊤
AllChange given core (event ∷ events) = IsEnabled given core event × AllChange given (stepped given core event) events

-- how many steps of a code of so many steps an actor has behind it; its end counts as one more
abbrev pub gone_by : ℕ → Actor → ℕ
gone_by count actor = (actor.instant - 1) * count + actor.step + (if actor.ended then 1 else 0)

-- how many all actors have, each in its code
abbrev pub all_gone : List CodeView → List Actor → ℕ
all_gone [] actors = 0
all_gone (code ∷ codes) [] = 0
all_gone (code ∷ codes) (actor ∷ actors) = gone_by (length code.steps) actor + all_gone codes actors

-- the number of the steps of all codes
abbrev pub steps_in : List CodeView → ℕ
steps_in [] = 0
steps_in (code ∷ codes) = length code.steps + steps_in codes
