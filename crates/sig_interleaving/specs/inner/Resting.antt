-- Actors for which no event changes anything.
use Rattle.std.specs.Prelude.{◌≡◌, ◌≢◌, ◌<◌, ◌≤◌, ◌-◌, ◌+◌, ◌*◌}
use Rattle.sig_interleaving.specs.Prelude.{ℕ, Option, None, Some, length, slice_get, code_of, Core as ModelCore, stepped, Look, PlanView, Step, StepKind, Do, Send, Receive, Report, Collect, actor_of, ClusterState}
use Rattle.sig_interleaving.specs.Cores.{Shows, given_of, left_in}
use Rattle.sig_interleaving.specs.Finishing.{IsStill}
use Rattle.sig_interleaving.specs.Lists.{queues_of}
use Rattle.sig_interleaving.specs.declared.state.Core.{Core}
use Rattle.sig_plan.specs.declared.code.StepKind.TheVariants.{Commit}

-- the link that a step of this kind uses
abbrev pub link_of : StepKind → Option ℕ
link_of (Do o) = None
link_of (Send j) = Some j
link_of (Receive j) = Some j
link_of (Report j) = Some j
link_of (Collect j) = Some j
link_of Commit = None

abbrev pub link_at : Option Step → Option ℕ
link_at None = None
link_at (Some step) = link_of step.kind

abbrev pub link_by : PlanView → ℕ → Option ClusterState → Option ℕ
link_by plan k None = None
link_by plan k (Some s) = link_at (slice_get (code_of plan k).steps (actor_of s).step)

-- the link that the next step of the actor k uses
abbrev pub next_link : Core → ℕ → Option ℕ
next_link c k = link_by c.plan.now k (slice_get c.states.items k)

-- no event of the actor k changes the state of a core
abbrev pub Rests : Core → ℕ → Type 0
Rests c k = (m : ModelCore) → Shows m c → IsStill c m k

-- the same of the actors below a number
abbrev pub RestBelow : ℕ → Core → Type 0
RestBelow bound c = (k : ℕ) → k < bound → Rests c k

-- a look of the actor k changes nothing
abbrev pub SeesNothing : ℕ → Core → Type 0
SeesNothing k c = (m : ModelCore) → Shows m c → stepped (given_of c) m (Look k) ≡ m

-- An event of the actor k changed no other actor, and no link but this one.
pub record Touches (k : ℕ) (link : Option ℕ) (old new : Core) : Type 0 where
  pub states : (i : ℕ) → i ≢ k → slice_get new.states.items i ≡ slice_get old.states.items i
  pub links : (j : ℕ) → link ≢ Some j → queues_of new.lists j ≡ queues_of old.lists j

-- what is left where the actors below a number rest
abbrev pub left_behind : Core → ℕ → ℕ
left_behind c k = left_in c * (length c.states.items + 1) + (length c.states.items - k)

-- The actor k was served: the actors below the next number rest, and less is left.
pub record Serves (k : ℕ) (old new : Core) (next : ℕ) : Type 0 where
  pub within : next ≤ length new.states.items
  pub rest : RestBelow next new
  pub less : left_behind new next < left_behind old k
