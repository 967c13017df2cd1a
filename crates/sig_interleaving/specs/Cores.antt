-- What the state of a core means: the actors, the links and the failure word of a state of sig_model.
use Rattle.std.specs.Prelude.{◌≡◌, ◌<◌, ◌≤◌, ◌+◌, ◌-◌, ◌*◌, ◌^◌, ◌∷◌, ◌++◌}
use Rattle.sig_interleaving.specs.Prelude.{ℕ, List, [], length, map, slice_get, slice_index_or, Option, None, Some, Bool, true, false, longest_lines, outputs_of, no_place, packed, Place, AreFlowsFor, Kernel, Actor, code_of, Core as ModelCore, Given, IsEnabled, after, reactions_text, stepped, Reaction, Event, PlanView, IsStateOf, actor_of, limit_of, number_of, ClusterState}
use Rattle.sig_interleaving.specs.Lists.{queues_of}
use Rattle.sig_interleaving.specs.declared.state.Core.{Core}

-- what the run of a core is given
abbrev pub given_of : Core → Given
given_of c = record { plan = c.plan.now; flows = c.inputs.now; capacity = c.capacity; limit = c.limit }

-- a state is that of the actor k, up to a limit
pub record IsActorState (given : Given) (k : ℕ) (s : ClusterState) : Type 0 where
  pub state : IsStateOf given.plan given.flows s
  pub number : number_of s ≡ k
  pub limit : limit_of s ≡ given.limit

-- a word is that of the least place that was recorded, or of none
pub record IsWordOf (place : Place) (word : ℕ) : Type 0 where
  pub is : packed place ≡ word
  pub position : place.pos < 2 ^ 32
  pub instant : place.instant < 2 ^ 32 - 1

abbrev pub IsWord : Option Place → ℕ → Type 0
IsWord None word = word ≡ no_place
IsWord (Some place) word = IsWordOf place word

-- A core has the states of all actors of its plan, its links have their capacity, its word is that of some place, or of none,
-- and the lines of all outputs have room.
pub record IsCore (c : Core) : Type 0 where
  pub fits : AreFlowsFor c.plan.now.kernel c.inputs.now
  pub limit : c.limit + 1 < 2 ^ 32
  pub capacity : 1 ≤ c.capacity
  pub small : c.capacity < 2 ^ 32
  pub actors : length c.states.items ≡ length c.plan.now.codes
  pub few : length c.states.items < 2 ^ 32
  pub states : (k : ℕ) (s : ClusterState) → slice_get c.states.items k ≡ Some s → IsActorState (given_of c) k s
  pub links : length c.lists.queues.items ≡ length c.plan.now.links
  pub room : (j : ℕ) → j < length c.plan.now.links → (queues_of c.lists j).capacity ≡ c.capacity
  pub held : (j : ℕ) → j < length c.plan.now.links → length (queues_of c.lists j).items ≤ c.capacity
  pub word : (place : Option Place) × IsWord place c.word
  pub lines : longest_lines (outputs_of c.plan.now.kernel) ≤ c.lines.size

-- A core is in this state, whatever is committed in it.
pub record Shows (m : ModelCore) (c : Core) : Type 0 where
  pub actors : m.actors ≡ map actor_of c.states.items
  pub count : length m.links ≡ length c.lists.queues.items
  pub links : (j : ℕ) → slice_index_or m.links j [] ≡ (queues_of c.lists j).items
  pub word : IsWord m.word c.word

-- A list of events leads to the state of a core from the opening.
abbrev pub IsReached : Core → Type 0
IsReached c = (events : List Event) × Shows (after (given_of c) events) c

-- both are cores of one run
abbrev pub IsSameRun : Core → Core → Type 0
IsSameRun old new = given_of new ≡ given_of old

-- A sink took the text of the reactions by which the later of two states has committed more.
pub record TookMore {S : Type 0} (took : S → List ℕ → S → Type 0) (kernel : Kernel) (m n : ModelCore) (before after : S) : Type 0 where
  pub more : List Reaction
  pub committed : n.committed ≡ m.committed ++ more
  pub taken : took before (reactions_text kernel more) after

-- An event happened: of each state in which the core was, it is in the one behind the event, and a sink took the text of the
-- reaction that was committed, if one was.
abbrev pub Happened : {S : Type 0} → (S → List ℕ → S → Type 0) → Event → Core → Core → S → S → Type 0
Happened took event old new before after = (m : ModelCore) → Shows m old
    → Shows (stepped (given_of old) m event) new
    × TookMore took (given_of old).plan.kernel m (stepped (given_of old) m event) before after

-- the same of an event that commits nothing
abbrev pub Keeps : Event → Core → Core → Type 0
Keeps event old new = (m : ModelCore) → Shows m old
    → Shows (stepped (given_of old) m event) new × ((stepped (given_of old) m event).committed ≡ m.committed)

-- an answer tells whether an event changes the state
abbrev pub TellsChange : Core → Event → Bool → Type 0
TellsChange c event true = (m : ModelCore) → Shows m c → IsEnabled (given_of c) m event
TellsChange c event false = (m : ModelCore) → Shows m c → stepped (given_of c) m event ≡ m

-- an actor that runs has one event left to end
abbrev pub one_to_end : Bool → ℕ
one_to_end true = 0
one_to_end false = 1

-- how many steps of a code of so many steps an actor has left at most, up to the limit, and one to end
abbrev pub left_at : ℕ → ℕ → Actor → ℕ
left_at limit count actor = (limit + 1 - actor.instant) * count + (count - actor.step) + one_to_end actor.ended

-- of actors from a number on
abbrev pub left_from : PlanView → ℕ → ℕ → List Actor → ℕ
left_from plan limit k [] = 0
left_from plan limit k (actor ∷ actors) = left_at limit (length (code_of plan k).steps) actor + left_from plan limit (k + 1) actors

abbrev pub left_in : Core → ℕ
left_in c = left_from c.plan.now c.limit 0 (map actor_of c.states.items)

-- an event that changes something leaves less, another one as much
abbrev pub LeavesLess : Core → Core → Bool → Type 0
LeavesLess old new true = left_in new < left_in old
LeavesLess old new false = left_in new ≡ left_in old
