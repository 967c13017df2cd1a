use Rattle.sig_loaded.proofs.{IfSome, Some, subst, err_from_is_err_and, inputs_of, PlanView, IsOwn, outcome_of, AtFlows, stops_flows, stops_items, stops_program}
use Rattle.sig_loaded.proofs.load.load.Goals as goal

pub returns-in_err-plan-clause-stops : goal.returns-in_err-plan-clause-stops
returns-in_err-plan-clause-stops g c =
    let p = err_from_is_err_and c.from_residual.result c.from_residual.ensures.1 in
    rw (p.1, p.2) (stops_program (g.F.Files.contents c.args.files.now) (g.F.Files.at c.args.files.now) (g.F.Files.at c.load_plan.new.files)
    (g.F.Files.misses c.args.files.now) (g.F.Files.misses c.load_plan.new.files) (g.F.Files.misses c.load_plan.new.files)
    (g.F.Files.faults c.args.files.now) (g.F.Files.faults c.load_plan.new.files) (g.F.Files.faults c.load_plan.new.files)
    c.args.program.now c.args.flows.now c.args.settings c.in_err-plan.field-0.0
    c.in_err-plan.ensures.about c.in_err-plan.ensures.counted c.in_err-plan.ensures.refused c.in_err-plan.ensures.budget c.in_err-plan.ensures.read.told)

pub returns-then-hold_too_many-clause-stops : goal.returns-then-hold_too_many-clause-stops
returns-then-hold_too_many-clause-stops g c =
    stops_items (g.F.Files.contents c.args.files.now) (g.F.Files.at c.args.files.now) (g.F.Files.at c.load_plan.new.files)
    (g.F.Files.misses c.args.files.now) (g.F.Files.misses c.load_plan.new.files) (g.F.Files.misses c.load_plan.new.files)
    (g.F.Files.faults c.args.files.now) (g.F.Files.faults c.load_plan.new.files) (g.F.Files.faults c.load_plan.new.files)
    c.args.program.now c.args.flows.now c.args.settings c.in_ok-plan.plan.kernel c.in_ok-plan.ensures.plan
    (c.hold_too_many.ensures.many c.if-hold_too_many.true) c.in_ok-plan.ensures.read.told

pub returns-in_err-inputs-clause-stops : goal.returns-in_err-inputs-clause-stops
returns-in_err-inputs-clause-stops g c =
    let p = err_from_is_err_and c.from_residual-in_err-inputs.result c.from_residual-in_err-inputs.ensures.1 in
    let refused = subst (λ (plan : PlanView). IfSome (g.F.Files.contents c.load_plan.new.files) (λ held.
    IsOwn c.in_err-inputs.field-0.0 (g.F.Files.faults c.load_plan.new.files) (g.F.Files.faults c.load_flows.new.files)
    → AtFlows held c.args.flows.now (inputs_of plan.kernel) (λ _ _. ⊥) (outcome_of c.in_err-inputs.field-0.0 (Some c.args.flows.now)))) c.plan.view_is c.in_err-inputs.ensures.refused in
    rw (p.1, p.2) (stops_flows (g.F.Files.contents c.args.files.now) (g.F.Files.at c.args.files.now) (g.F.Files.at c.load_flows.new.files)
    (g.F.Files.misses c.args.files.now) (g.F.Files.misses c.load_plan.new.files) (g.F.Files.misses c.load_flows.new.files)
    (g.F.Files.faults c.args.files.now) (g.F.Files.faults c.load_plan.new.files) (g.F.Files.faults c.load_flows.new.files)
    c.args.program.now c.args.flows.now c.args.settings c.in_ok-plan.plan.kernel c.in_ok-plan.ensures.plan
    (c.hold_too_many.ensures.few c.if-hold_too_many.false)
    (g.F.Files.contents c.load_plan.new.files) c.in_err-inputs.field-0.0
    c.in_ok-plan.ensures.read.contents_stay c.in_ok-plan.ensures.read.misses_stay c.in_ok-plan.ensures.read.faults_stay
    c.in_err-inputs.ensures.about c.in_err-inputs.ensures.counted refused c.in_err-inputs.ensures.read.told)
