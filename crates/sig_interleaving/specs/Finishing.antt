-- A run to its end.
use Rattle.std.specs.Prelude.{◌≡◌, ◌≤◌, ◌+◌, ◌*◌, ◌-◌, ◌++◌}
use Rattle.sig_interleaving.specs.Prelude.{ℕ, List, true, fold, length, slice_get, Option, None, Some, Trace, OpId, Place, output_text, IsEnd, Core as ModelCore, after, cause_of_op, reactions_text, stepped, Event, Act, Look, Cause, Ended, steps_in, actor_of, ClusterState}
use Rattle.sig_interleaving.specs.Cores.{Shows, TookMore, given_of}
use Rattle.sig_interleaving.specs.inner.First.{AllFirst}
use Rattle.sig_interleaving.specs.declared.state.Core.{Core}

-- Events led from one state of a core to another, each of them the first that changed the state, and a sink took the text of
-- what they committed.
pub record Led {S : Type 0} (took : S → List ℕ → S → Type 0) (m : ModelCore) (old new : Core) (before after : S) : Type 0 where
  pub events : List Event
  pub first : AllFirst (given_of old) m events
  pub shows : Shows (fold (stepped (given_of old)) m events) new
  pub text : TookMore took old.plan.now.kernel m (fold (stepped (given_of old)) m events) before after

abbrev pub LeadsTo : {S : Type 0} → (S → List ℕ → S → Type 0) → Core → Core → S → S → Type 0
LeadsTo took old new before after = (m : ModelCore) → Shows m old → Led took m old new before after

-- Such events, which are no more than the steps of all codes, times the limit, and the actors.
abbrev pub LeadsWithin : {S : Type 0} → (S → List ℕ → S → Type 0) → Core → Core → S → S → Type 0
LeadsWithin took old new before after = (m : ModelCore) → Shows m old → (led : Led took m old new before after)
    × (length led.events ≤ old.limit * steps_in old.plan.now.codes + length old.plan.now.codes)

-- no event of the actor k changes a state
abbrev pub IsStill : Core → ModelCore → ℕ → Type 0
IsStill c m k = (stepped (given_of c) m (Look k) ≡ m) × (stepped (given_of c) m (Act k) ≡ m)

-- all actors have ended
abbrev pub HasEnded : Core → Type 0
HasEnded c = (k : ℕ) (s : ClusterState) → slice_get c.states.items k ≡ Some s → (actor_of s).ended ≡ true

-- how many instants are before that of the collector, which is the last actor
abbrev pub instants_by : Option ClusterState → ℕ
instants_by None = 0
instants_by (Some collector) = (actor_of collector).instant - 1

abbrev pub instants_of : Core → ℕ
instants_of c = instants_by (slice_get c.states.items (length c.states.items - 1))

-- why the operation of a number has no value
abbrev pub cause_of_number : Core → ModelCore → OpId → Cause
cause_of_number c m o = cause_of_op c.plan.now c.inputs.now m (slice_get c.plan.now.ops o.0)

-- the end of a run is that of the longest trace, with its named cause
abbrev pub IsEndOf : Core → Ended → Type 0
IsEndOf c answer = (trace : Trace) (place : Option Place) (ended : Ended)
    → IsEnd c.plan.now c.inputs.now c.limit trace place ended → answer ≡ ended

-- a sink took the rest of the text of a trace, behind that of what was committed
pub record TookBehind {S : Type 0} (took : S → List ℕ → S → Type 0) (m : ModelCore) (c : Core) (trace : Trace) (before after : S) : Type 0 where
  pub rest : List ℕ
  pub joined : reactions_text c.plan.now.kernel m.committed ++ rest ≡ output_text c.plan.now.kernel trace
  pub taken : took before rest after

-- what events leave of the opening
abbrev pub after_of : Core → List Event → ModelCore
after_of c events = after (given_of c) events

-- A sink took the rest of the text of the longest trace.
abbrev pub TookRest : {S : Type 0} → (S → List ℕ → S → Type 0) → Core → S → S → Type 0
TookRest took c before after = (events : List Event) → Shows (after_of c events) c
    → (trace : Trace) (place : Option Place) (ended : Ended) → IsEnd c.plan.now c.inputs.now c.limit trace place ended
    → TookBehind took (after_of c events) c trace before after
