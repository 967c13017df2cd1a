-- The making of a core.
use Rattle.std.specs.Prelude.{◌≡◌}
use Rattle.sig_interleaving.specs.Prelude.{ℕ, ℤ, List, length, slice_get, Some, opening_actor, PlanView, IsStateOf, actor_of, limit_of, number_of, ClusterState}

-- a state of the actor k at the opening
pub record IsOpened (plan : PlanView) (flows : List (List ℤ)) (limit k : ℕ) (s : ClusterState) : Type 0 where
  pub state : IsStateOf plan flows s
  pub opening : actor_of s ≡ opening_actor plan.kernel
  pub number : number_of s ≡ k
  pub limit_is : limit_of s ≡ limit

-- the opening states of the first actors
pub record AreOpened (plan : PlanView) (flows : List (List ℤ)) (limit count : ℕ) (states : List ClusterState) : Type 0 where
  pub actors : length states ≡ count
  pub each : (k : ℕ) (s : ClusterState) → slice_get states k ≡ Some s → IsOpened plan flows limit k s
