-- Which event comes first: that of the least actor for which one changes the state, and of its events the look.
use Rattle.std.specs.Prelude.{◌≡◌, ◌≤◌, ◌∷◌}
use Rattle.sig_interleaving.specs.Prelude.{ℕ, List, [], ⊤, Core as ModelCore, Given, IsEnabled, stepped, Event, Act, Look}

-- the actor of an event
abbrev pub actor_in : Event → ℕ
actor_in (Act k) = k
actor_in (Look k) = k

-- An event is the first of those that change a state: none of a lesser actor does, and where it is a step, the look of its
-- actor does not.
pub record IsFirst (given : Given) (core : ModelCore) (event : Event) : Type 0 where
  pub changes : IsEnabled given core event
  pub least : (other : Event) → IsEnabled given core other → actor_in event ≤ actor_in other
  pub look : (k : ℕ) → event ≡ Act k → IsEnabled given core (Look k) → ⊥

-- each event of a list is the first in the state that those before it leave
abbrev pub AllFirst : Given → ModelCore → List Event → Type 0
AllFirst given core [] = ⊤
AllFirst given core (event ∷ events) = IsFirst given core event × AllFirst given (stepped given core event) events
