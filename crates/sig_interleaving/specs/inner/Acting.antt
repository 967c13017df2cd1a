-- Steps of the actors of a core.
use Rattle.std.specs.Prelude.{◌≡◌, ◌∷◌, ◌++◌}
use Rattle.sig_interleaving.specs.Prelude.{ℕ, [], Bool, true, false, length, slice_get, slice_set, Option, None, Some, Core as ModelCore, stepped, turn, Event, Act, TakesTurn, Past, Queues, IsSameActor, IsStateOf, actor_of, last_reaction, limit_of, number_of, Acted, Commit, Empty, Full, Stopped, ClusterState}
use Rattle.sig_interleaving.specs.Cores.{Shows, given_of}
use Rattle.sig_interleaving.specs.Lists.{queues_of}
use Rattle.sig_interleaving.specs.declared.lists.Lists.{Lists}
use Rattle.sig_interleaving.specs.declared.state.Core.{Core}

-- links in memory tell what they hold, and nothing else
abbrev pub no_past : Lists → Option Past
no_past lists = None

abbrev pub told_queues : Lists → Option Queues
told_queues lists = Some (queues_of lists)

-- The actor k did its turn, and answered this.
pub record TakesTurnAt (k : ℕ) (acted : Acted) (old new : Core) : Type 0 where
  pub before : ClusterState
  pub next : ClusterState
  pub at : slice_get old.states.items k ≡ Some before
  pub is : new.states.items ≡ slice_set old.states.items k next
  pub state : IsStateOf old.plan.now old.inputs.now next
  pub same : IsSameActor before next
  pub turn_is : TakesTurn no_past told_queues old.plan.now.kernel (turn old.plan.now old.inputs.now (limit_of before) (number_of before) (actor_of before))
      acted before next old.lists new.lists
  pub count : length new.lists.queues.items ≡ length old.lists.queues.items

-- a step that answers this changes the state
abbrev pub changes : Acted → Bool
changes (Empty j) = false
changes (Full j) = false
changes Stopped = false
changes other = true

-- Of each state in which a core was, it is in the one behind the event.
abbrev pub IsStepped : Event → Core → Core → Type 0
IsStepped event old new = (m : ModelCore) → Shows m old → Shows (stepped (given_of old) m event) new

-- what a step of the actor k that answers this commits: the last reaction of the actor, or nothing
abbrev pub CommitsAs : ℕ → Core → Acted → ModelCore → ModelCore → Type 0
CommitsAs k new Commit m n = (s : ClusterState) → slice_get new.states.items k ≡ Some s
    → n.committed ≡ m.committed ++ last_reaction new.plan.now.kernel s ∷ []
CommitsAs k new other m n = n.committed ≡ m.committed

abbrev pub CommitsBy : ℕ → Acted → Core → Core → Type 0
CommitsBy k acted old new = (m : ModelCore) → Shows m old → CommitsAs k new acted m (stepped (given_of old) m (Act k))
