-- The links that the actors of a plan use.
use Rattle.sig_interleaving.proofs.Common.{◌≡◌, ◌<◌, ℕ, length, arith, Contains, range_with_len, code_of, NamesWithin, IsAccepted, PlanView, StepKind, Do, Send, Receive, Report, Collect, Commit, step_names, step_coded, MayDo, MayUse, in_range}

pub may_use : (plan : PlanView) → IsAccepted plan → (k n : ℕ) → n ≡ length plan.links → MayUse plan k (range_with_len 0 n) (range_with_len 0 n)
may_use plan accepted k n count number step at = by step.kind (step_names plan accepted k (code_of plan k) (step_coded plan k number step at) number step at) where
  there : (j : ℕ) → j < length plan.links → Contains (range_with_len 0 n) j
  there j lt = in_range n j (omega (arith, lt, count))

  by : (kind : StepKind) → NamesWithin (length plan.ops) (length plan.links) kind → MayDo (range_with_len 0 n) (range_with_len 0 n) kind
  by (Do o) named = tt
  by (Send j) named = there j named
  by (Receive j) named = there j named
  by (Report j) named = there j named
  by (Collect j) named = there j named
  by Commit named = tt
