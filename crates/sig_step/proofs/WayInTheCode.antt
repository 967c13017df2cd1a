-- How an actor goes on in its code.
use Rattle.sig_step.proofs.Common.{◌≡◌, ◌≤◌, ◌+◌, ℕ, false, nat_lt, ap, arith, Actor, moved_on, actor_of, ClusterState, actor_in, at_next, ActorMachine}

pub no_further : (m n : ℕ) → n ≤ m → nat_lt m n ≡ false
no_further m n more = grind (arith, more)

-- behind the last step
pub behind_last : (count : ℕ) (s : ClusterState) (v : ActorMachine) → count ≤ s.step + 1 → actor_in v 0 ≡ at_next (actor_in s.values s.step)
    → actor_of (record s { step = 0; values = v }) ≡ moved_on count (actor_of s)
behind_last count s v last next =
    rw (no_further (s.step + 1) count last) (ap (λ (a : Actor). record a { ended = s.ended }) next)
