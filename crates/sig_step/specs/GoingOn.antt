-- What a call that does several steps of an actor leaves.
use Rattle.std.specs.Prelude.{◌≡◌, ◌≤◌}
use Rattle.sig_step.specs.Prelude.{ℕ, zero, suc, ℤ, List, Option, turn, PlanView, instant_of}
use Rattle.sig_step.specs.Acting.{Counts, CountsNone, Finds, TakesTurn}
use Rattle.sig_step.specs.LinkEnds.{Past, Queues}
use Rattle.sig_step.specs.Moving.{IsSameActor, StaysMet}
use Rattle.sig_step.specs.States.{IsStateOf, actor_of}
use Rattle.sig_step.specs.declared.answer.Acted.{Acted}
use Rattle.sig_step.specs.declared.answer.Acted.TheVariants.{Done}
use Rattle.sig_step.specs.declared.state.ClusterState.{ClusterState}

-- One step, as a call of `act` leaves it: the turn that the model gives, why a link refused, and the count of the walks of
-- guards.
pub record DoesStep {E : Type 0} (past : E → Option Past) (queues : E → Option Queues) (found_full found_empty : ℕ → E → E → Type 0) (same : E → E → Type 0) (plan : PlanView) (flows : List (List ℤ))
    (acted : Acted) (old new : ClusterState) (before after : E) (count_before count_after : ℕ) : Type 0 where
  pub state : IsStateOf plan flows new
  pub actor : IsSameActor old new
  pub takes : TakesTurn past queues plan.kernel (turn plan flows old.limit old.actor (actor_of old)) acted old new before after
  pub found : Finds found_full found_empty acted before after
  pub ends : same before after
  pub met : StaysMet plan acted new
  pub counts : Counts plan old count_before count_after
  pub idle : CountsNone old count_before count_after

-- So many steps, one after another, each of which is done.
abbrev pub DoesSteps : {E : Type 0} → (E → Option Past) → (E → Option Queues) → (ℕ → E → E → Type 0) → (ℕ → E → E → Type 0) → (E → E → Type 0) → PlanView → List (List ℤ)
    → ℕ → ClusterState → ClusterState → E → E → ℕ → ℕ → Type 0
DoesSteps past queues found_full found_empty same plan flows zero old new before after count_before count_after = (new ≡ old) × (after ≡ before) × (count_after ≡ count_before)
DoesSteps {E} past queues found_full found_empty same plan flows (suc n) old new before after count_before count_after =
    (mid : ClusterState) × (between : E) × (amid : ℕ)
    × DoesSteps past queues found_full found_empty same plan flows n old mid before between count_before amid
    × DoesStep past queues found_full found_empty same plan flows Done mid new between after amid count_after

-- Steps one after another, no more than one and so many: all but the last are done, the last begins in the instant of the first,
-- and this is what it came to.
pub record ActsOn {E : Type 0} (past : E → Option Past) (queues : E → Option Queues) (found_full found_empty : ℕ → E → E → Type 0) (same : E → E → Type 0) (plan : PlanView) (flows : List (List ℤ)) (more : ℕ)
    (acted : Acted) (old new : ClusterState) (before after : E) (count_before count_after : ℕ) : Type 0 where
  pub count : ℕ
  pub few : count ≤ more
  pub mid : ClusterState
  pub between : E
  pub amid : ℕ
  pub here : instant_of mid.values ≡ instant_of old.values
  pub done : DoesSteps past queues found_full found_empty same plan flows count old mid before between count_before amid
  pub last : DoesStep past queues found_full found_empty same plan flows acted mid new between after amid count_after
