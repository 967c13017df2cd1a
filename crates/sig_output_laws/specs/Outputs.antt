-- What each actor puts out: the values of its operations, at the moment when they are done. Nobody has collected them yet.
use Rattle.std.specs.Prelude.{◌≡◌, ◌++◌, ◌∷◌, ◌==◌, if◌then◌else◌}
use Rattle.sig_output_laws.specs.Prelude.{ℕ, ℤ, nat_lt, List, [], slice_get, Option, None, Some, Signal, Op, CodeView, Step, Actor, code_of, guard_holds, Core, Given, opening, stepped, Faults, Gives, Outcome, outcome, names, op_of, Event}
use Rattle.sig_model.specs.declared.event.Event.TheVariants.{Act, Look}

-- the value to which an operation came, if it came to one
abbrev pub value_of : Outcome → List ℤ
value_of (Gives v) = v ∷ []
value_of (Faults cause) = []

-- what an operation puts out of a signal, at the actor that does it: its value, where it writes the signal
abbrev pub put_by : Given → (signal : ℕ) → Actor → Option Op → List ℤ
put_by given signal actor None = []
put_by given signal actor (Some op) = if names signal op.writes then value_of (outcome given.plan.kernel given.flows actor op) else []

-- what a step puts out, where its guard holds
abbrev pub put_at : Given → (signal : ℕ) → CodeView → Actor → Option Step → List ℤ
put_at given signal code actor None = []
put_at given signal code actor (Some step) =
    if guard_holds given.plan code actor.registers step then put_by given signal actor (op_of given.plan.ops step.kind) else []

-- what the turn of an actor puts out: nothing where it has ended, or is past the limit
abbrev pub put_in_turn : Given → (signal : ℕ) → CodeView → Actor → List ℤ
put_in_turn given signal code actor =
    if actor.ended then [] else if nat_lt given.limit actor.instant then [] else put_at given signal code actor (slice_get code.steps actor.step)

abbrev pub put_by_actor : Given → (signal k : ℕ) → Option Actor → List ℤ
put_by_actor given signal k None = []
put_by_actor given signal k (Some actor) = put_in_turn given signal (code_of given.plan k) actor

-- what the actor k puts out at an event
abbrev pub put_at_event : Given → (signal k : ℕ) → Core → Event → List ℤ
put_at_event given signal k core (Act j) = if j == k then put_by_actor given signal k (slice_get core.actors k) else []
put_at_event given signal k core (Look j) = []

-- what the actor k puts out at each of some events, from a state on
abbrev pub put_from : Given → (signal k : ℕ) → Core → List Event → List ℤ
put_from given signal k core [] = []
put_from given signal k core (event ∷ events) = put_at_event given signal k core event ++ put_from given signal k (stepped given core event) events

-- The values of a signal that the actor k has put out after an interleaving, in order.
abbrev pub put_out : Given → (signal k : ℕ) → List Event → List ℤ
put_out given signal k events = put_from given signal k (opening given.plan) events

-- the actor k is the one that writes a signal
abbrev pub IsWriter : Given → (signal k : ℕ) → Type 0
IsWriter given signal k = (owner : Signal) × (slice_get given.plan.kernel.signals signal ≡ Some owner) × (owner.cluster ≡ k)
