use Rattle.sig_machine.proofs.{◌≡◌, ◌<◌, ◌≤◌, ◌+◌, ℕ, ℤ, zero, suc, Bool, true, false, nat_lt, ltb-true, ltb-false, List, arith, refl, subst, Op, PlanView, AreFollowed, HasFault, IsOpOfStep, IsStepDone, ActorMachine}
use Rattle.sig_machine.proofs.actor.ActorMachine.follow.Goals as goal

pub follow_row-requires-clause-operations : goal.follow_row-requires-clause-operations
follow_row-requires-clause-operations c = λ n less.
    let (op, does) = c.requires.op in
    (op, subst (λ (number : ℕ). IsOpOfStep c.args.plan.now c.args.actor number op) (omega (arith, less)) does)

-- a row of one is its only step
step_of_row : (plan : PlanView) (k : ℕ) (flows : List (List ℤ)) (number count : ℕ) (old new : ActorMachine) → count ≤ 1 → 0 < count → AreFollowed plan k flows number count old new
    → (op : Op) → IsOpOfStep plan k number op → IsStepDone plan.kernel flows op true old new
step_of_row plan k flows number zero old new few some followed op does = absurd (omega (arith, some))
step_of_row plan k flows number (suc zero) old new few some (mid, is, one) op does =
    subst (λ (a : ActorMachine). IsStepDone plan.kernel flows op true a new) is
    (one.done op (subst (λ (n : ℕ). IsOpOfStep plan k n op) (omega arith) does))
step_of_row plan k flows number (suc (suc n)) old new few some followed op does = absurd (omega (arith, few))

-- and where that has a fault, nothing changed
no_step_of_row : (plan : PlanView) (k : ℕ) (flows : List (List ℤ)) (number count : ℕ) (old new : ActorMachine) → count ≤ 0 → AreFollowed plan k flows number count old new
    → ((op : Op) → IsOpOfStep plan k (number + count) op → HasFault plan.kernel flows op new) → (op : Op) → IsOpOfStep plan k number op → IsStepDone plan.kernel flows op false old new
no_step_of_row plan k flows number zero old new few followed stops op does =
    let (cause, faults) = stops op (subst (λ (n : ℕ). IsOpOfStep plan k n op) (omega arith) does) in
    let (own, own_faults) = subst (λ (a : ActorMachine). HasFault plan.kernel flows op a) followed (cause, faults) in
    (own, own_faults, followed)
no_step_of_row plan k flows number (suc n) old new few followed stops op does = absurd (omega (arith, few))

by_count : (P : Bool → Type 0) (count : ℕ) → (0 < count → P true) → (count ≤ 0 → P false) → P (nat_lt 0 count)
by_count P count some none = at (nat_lt 0 count) refl where
  at : (b : Bool) → nat_lt 0 count ≡ b → P b
  at true e = some (ltb-true 0 count e)
  at false e = none (ltb-false 0 count e)

pub returns-clause-done : goal.returns-clause-done
returns-clause-done c = λ op does.
    let plan = c.args.plan.now in
    let old = c.args.self.now in
    let new = c.follow_row.new.self in
    let few = c.follow_row.ensures.few in
    by_count (λ b. IsStepDone plan.kernel c.args.inputs.now op b old new) c.follow_row.result
    (λ some. step_of_row plan c.args.actor c.args.inputs.now c.args.number c.follow_row.result old new few some c.follow_row.ensures.followed op does)
    (λ none. no_step_of_row plan c.args.actor c.args.inputs.now c.args.number c.follow_row.result old new none c.follow_row.ensures.followed (c.follow_row.ensures.stops (omega (arith, none))) op does)
