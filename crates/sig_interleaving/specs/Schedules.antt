-- What holds of each state that events lead to, whichever they are.
use Rattle.std.specs.Prelude.{◌+◌, ◌*◌, ◌≤◌}
use Rattle.sig_interleaving.specs.Prelude.{ℕ, ℤ, List, length, Option, IsPrefixOf, Trace, Place, output_text, IsEnd, Core as ModelCore, Given, IsEnabled, IsFinished, after, opening, reactions_text, IsOnReference, IsReference, Event, PlanView, Ended, AllChange, steps_in, HasEnd, IsNotBefore}
use Rattle.sig_interleaving.specs.Cores.{Shows, given_of}
use Rattle.sig_interleaving.specs.declared.state.Core.{Core}

-- The text of what is committed begins that of the longest trace.
abbrev pub BeginsTheText : Given → ModelCore → Type 0
BeginsTheText given m = (trace : Trace) (place : Option Place) (ended : Ended) → IsEnd given.plan given.flows given.limit trace place ended
    → IsPrefixOf (reactions_text given.plan.kernel m.committed) (output_text given.plan.kernel trace)

-- Links, memories and registers have what the extended reference says.
abbrev pub KeepsToTheReference : Given → ModelCore → Type 0
KeepsToTheReference given m = (reference : Trace) → IsReference given.plan.kernel given.flows (length reference) reference
    → given.limit + 1 ≤ length reference → IsOnReference given reference m

-- No failure is recorded at a place before that of the named cause, and none where the limit is the cause.
abbrev pub RecordsNoneBefore : Given → ModelCore → Type 0
RecordsNoneBefore given m = (trace : Trace) (place : Option Place) (ended : Ended) → IsEnd given.plan given.flows given.limit trace place ended
    → IsNotBefore place m.word

-- An event changes the state, where not all actors have ended.
abbrev pub GoesOn : Given → ModelCore → Type 0
GoesOn given m = (IsFinished m → ⊥) → (event : Event) × IsEnabled given m event

-- Where all actors have ended, the longest trace is committed, and the word is the place of the named cause.
abbrev pub HasTheEnd : Given → ModelCore → Type 0
HasTheEnd given m = IsFinished m → (trace : Trace) (place : Option Place) (ended : Ended)
    → IsEnd given.plan given.flows given.limit trace place ended → HasEnd given m trace place ended

-- a run of a plan over flows
abbrev pub run_of : PlanView → List (List ℤ) → ℕ → ℕ → Given
run_of plan flows capacity limit = record { plan = plan; flows = flows; capacity = capacity; limit = limit }

-- A fact holds behind each list of events, over links of each capacity from 1 and up to each limit from 1.
abbrev pub InEachRun : (Given → ModelCore → Type 0) → PlanView → List (List ℤ) → Type 0
InEachRun Fact plan flows = (capacity limit : ℕ) → 1 ≤ capacity → 1 ≤ limit → (events : List Event)
    → Fact (run_of plan flows capacity limit) (after (run_of plan flows capacity limit) events)

-- No list of events from the opening that each change the state is longer than the steps of all codes, times the limit, and
-- the actors.
abbrev pub AreBounded : PlanView → List (List ℤ) → Type 0
AreBounded plan flows = (capacity limit : ℕ) → 1 ≤ capacity → 1 ≤ limit → (events : List Event)
    → AllChange (run_of plan flows capacity limit) (opening plan) events
    → length events ≤ limit * steps_in plan.codes + length plan.codes

-- A fact holds of the state of a core, whichever events led to it.
abbrev pub HoldsOf : (Given → ModelCore → Type 0) → Core → Type 0
HoldsOf Fact c = (events : List Event) → Shows (after (given_of c) events) c → Fact (given_of c) (after (given_of c) events)
