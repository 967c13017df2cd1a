use Rattle.sig_load_command.proofs.{subst, err_from_is_err_and, flows, PlanView, IsOfFlowsText, stops_flows, stops_items, stops_program}
use Rattle.sig_load_command.proofs.generated.generated.Goals as goal

pub returns-in_err-plan-clause-stops : goal.returns-in_err-plan-clause-stops
returns-in_err-plan-clause-stops c =
    let p = err_from_is_err_and c.from_residual.result c.from_residual.ensures.1 in
    rw (p.1, p.2) (stops_program c.args.seed c.args.stages c.args.capacity c.in_err-plan.field-0.0 c.in_err-plan.ensures.refused)

pub returns-then-hold_too_many-clause-stops : goal.returns-then-hold_too_many-clause-stops
returns-then-hold_too_many-clause-stops c =
    stops_items c.args.seed c.args.stages c.args.capacity c.in_ok-plan.plan.kernel c.in_ok-plan.ensures.program (c.hold_too_many.ensures.many c.if-hold_too_many.true)

pub returns-in_err-inputs-clause-stops : goal.returns-in_err-inputs-clause-stops
returns-in_err-inputs-clause-stops c =
    let p = err_from_is_err_and c.from_residual-in_err-inputs.result c.from_residual-in_err-inputs.ensures.1 in
    let refused = subst (λ (plan : PlanView). IsOfFlowsText plan.kernel (flows c.args.seed c.args.stages) c.in_err-inputs.field-0.0) c.plan.view_is c.in_err-inputs.ensures.refused in
    rw (p.1, p.2) (stops_flows c.args.seed c.args.stages c.args.capacity c.in_ok-plan.plan.kernel c.in_ok-plan.ensures.program (c.hold_too_many.ensures.few c.if-hold_too_many.false) c.in_err-inputs.field-0.0 refused)
