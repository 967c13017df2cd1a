use Rattle.sig_step.proofs.{◌≡◌, ◌<◌, ◌^◌, ◌∙◌, ap, arith, length, refl, replicate, slice_get, subst, List, Actor, AreRows, code_of, position_of, CodeView, Slot, Step, opened, unknown}
use Rattle.sig_step.proofs.state.ClusterState.new.Goals as goal

pub returns-clause-state : goal.returns-clause-state
returns-clause-state c =
    let plan = c.args.plan.now in
    let count : length c.steps.result.now ≡ length (code_of plan c.args.actor).steps = ap length (c.steps.ensures ∙ ap (λ (code : CodeView). code.steps) c.code_at-code.ensures) in
    let short : length (code_of plan c.args.actor).steps < 2 ^ 32 = grind (arith, c.if-steps.false, count) in
    let steps = c.steps-2.ensures ∙ ap (λ (code : CodeView). code.steps) c.code_at-code.ensures in
    let own = c.steps-3.ensures ∙ ap (λ (code : CodeView). code.steps) c.code_at-code.ensures in
    let slots = c.slots.ensures ∙ ap (λ (code : CodeView). code.slots) c.code_at-code.ensures in
    opened plan c.args.inputs.now _ c.plans_can_run.ensures.runnable c.requires.actor c.requires.limit refl short
    (c.position_of.ensures ∙ ap (λ (steps : List Step). position_of (slice_get steps 0)) steps)
    c.in_ok-new.ensures.machine (ap (λ (a : Actor). a.instant) c.in_ok-new.ensures.opening)
    (c.in_ok-unknown.ensures ∙ ap (λ (slots : List Slot). replicate (length slots) unknown) slots)
    (c.in_ok-rows_of.ensures.count ∙ ap length own) (subst (λ (xs : List Step). AreRows xs c.in_ok-rows_of.field-0.items) own c.in_ok-rows_of.ensures.rows)
