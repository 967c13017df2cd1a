-- Several steps of an actor, one after another.
use Rattle.sig_step.proofs.Common.{◌≡◌, ◌≤◌, ◌∙◌, ℕ, ℤ, List, Option, PlanView, ActsOn, DoesStep, DoesSteps, Past, Queues, IsSameActor, Acted, ClusterState, instant_of}

pub same_actor_then : (s t u : ClusterState) → IsSameActor s t → IsSameActor t u → IsSameActor s u
same_actor_then s t u one two = record { actor = two.actor ∙ one.actor; limit = two.limit ∙ one.limit }

module _ {E : Type 0} (past : E → Option Past) (queues : E → Option Queues) (found_full found_empty : ℕ → E → E → Type 0) (same : E → E → Type 0) (plan : PlanView) (flows : List (List ℤ)) where
  -- and the last
  pub the_last : (more : ℕ) (old mid new : ClusterState) (before between after : E) (count_before amid count_after : ℕ) (acted : Acted) → instant_of mid.values ≡ instant_of old.values
      → (count : ℕ) → count ≤ more → DoesSteps past queues found_full found_empty same plan flows count old mid before between count_before amid
      → DoesStep past queues found_full found_empty same plan flows acted mid new between after amid count_after
      → ActsOn past queues found_full found_empty same plan flows more acted old new before after count_before count_after
  the_last more old mid new before between after count_before amid count_after acted here count few done step =
      record { count = count; few = few; mid = mid; between = between; amid = amid; here = here; done = done; last = step }
