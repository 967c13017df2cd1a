use Rattle.sig_rel.proofs.{◌≡◌, ◌<◌, ℕ, false, length, numbered_element, may_take, step_by}
use Rattle.sig_rel.proofs.placing.Placed.next.Given as goal

abbrev pub invariant-loop-place : goal.invariant-loop-place
invariant-loop-place l = (place : ℕ) → place < l.place → may_take l.kernel l.rules.least.items l.self (step_by l.rules (numbered_element (length l.kernel.signals) place)) ≡ false
