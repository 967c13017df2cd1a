-- The cause that a word names, as one actor tells it.
use Rattle.sig_work.proofs.Common.{◌≡◌, ◌∙◌, ℕ, ℤ, List, ap, sym, Some, slice_get, Core, cause_at, cause_of_op, PlanView, Limit, Op, HasNone, HasActors, Share}

module _ (plan : PlanView) (flows : List (List ℤ)) (shares : List Share) (core : Core) (has : HasActors shares core) (number : ℕ) (op : Op) (at : slice_get plan.ops number ≡ Some op) where
  pub cause_missing : HasNone shares op.actor → Limit ≡ cause_of_op plan flows core (slice_get plan.ops number)
  cause_missing none = ap (cause_at plan flows op) (sym (has.none op.actor none)) ∙ ap (cause_of_op plan flows core) (sym at)
