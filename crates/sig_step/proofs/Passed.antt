-- Steps that are passed over, one after another.
use Rattle.sig_step.proofs.Common.{◌≡◌, ◌+◌, ◌==◌, inl, inr, ℕ, zero, suc, ℤ, Bool, true, false, List, slice_get, if◌then◌else◌, Option, None, Some, refl, sym, subst, arith, eqb_tells, same_Some, code_of, turn, PlanView, Step, Counts, CountsAt, DoesStep, DoesSteps, Past, Queues, actor_of, known_in, Done, ClusterState, Mark, instant_of, Passes, PassesSo, IsKnown}
use Rattle.sig_step.proofs.CallsByTurn.{turn_alone}

holds_is : (p q b : Bool) → b ≡ true → (if b then Some p else None) ≡ Some q → p ≡ q
holds_is p q true is some = same_Some p q some
holds_is p q false is some = absurd (let e : false ≡ true = is in cc)

-- a guard that is known was met in this instant
pub known_holds : (s : ClusterState) (number : ℕ) (found : Option Mark) → slice_get s.marks.items number ≡ found → (holds : Bool)
    → known_in (instant_of s.values) found ≡ Some holds → IsKnown number holds s
known_holds s number None at holds is = absurd (let e : None ≡ Some holds = is in cc)
known_holds s number (Some mark) at holds is = elim (eqb_tells mark.instant (instant_of s.values)) [
  | inl same ↦ (mark, at, same.1, holds_is mark.holds holds (mark.instant == instant_of s.values) same.0 is)
  | inr other ↦ absurd (let e : None ≡ Some holds = rw other.0 at is in cc)
]

-- a step that walks no guard
counts_none : (plan : PlanView) (s : ClusterState) (count : ℕ) → Counts plan s count count
counts_none plan s count = by (slice_get (code_of plan s.actor).steps s.step) where
  by : (step : Option Step) → CountsAt plan s step count count
  by None = refl
  by (Some step) = λ slot there. record { needs = record { grows = omega arith; needed = λ variables spans. omega arith }; met = λ met. refl; parent = λ parent. refl }

module _ (plan : PlanView) (flows : List (List ℤ)) where
  module _ {E : Type 0} (past : E → Option Past) (queues : E → Option Queues) (found_full found_empty : ℕ → E → E → Type 0) (same : E → E → Type 0) where
    -- such a step is one of a call that asks its ends nothing
    does_pass : (s new : ClusterState) (ends : E) (count : ℕ) → same ends ends → Passes plan flows s new → DoesStep past queues found_full found_empty same plan flows Done s new ends ends count count
    does_pass s new ends count itself one = record {
      state = one.state;
      actor = one.actor;
      takes = turn_alone past queues plan.kernel (turn plan flows s.limit s.actor (actor_of s)) Done s new ends one.acts;
      found = tt;
      ends = itself;
      met = tt;
      counts = counts_none plan s count;
      idle = λ idle. refl;
    }

    -- so are so many of them
    pub steps_behind : (old mid : ClusterState) (before ends : E) (count_before count : ℕ) → same ends ends
        → (n : ℕ) → DoesSteps past queues found_full found_empty same plan flows n old mid before ends count_before count
        → (k : ℕ) (new : ClusterState) → PassesSo plan flows k mid new
        → (m : ℕ) × (m ≡ n + k) × DoesSteps past queues found_full found_empty same plan flows m old new before ends count_before count
    steps_behind old mid before ends count_before count itself n done zero new is =
        (n, omega arith, subst (λ (t : ClusterState). DoesSteps past queues found_full found_empty same plan flows n old t before ends count_before count) (sym is) done)
    steps_behind old mid before ends count_before count itself n done (suc k) new (between, first, one) =
        let (m, is, so_far) = steps_behind old mid before ends count_before count itself n done k between first in
        (suc m, omega (arith, is), (between, ends, count, so_far, does_pass between new ends count itself one))
