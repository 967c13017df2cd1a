use Rattle.sig_rel.proofs.{◌≡◌, ◌∙◌, List, ℕ, true, subst, sym, may_take, planned_step}
use Rattle.sig_rel.proofs.schedules.Scheduling.next.Goals as goal

pub returns-then-may_take : goal.returns-then-may_take
returns-then-may_take c =
    let kernel = c.args.kernel.now in
    let scheduling = c.args.self.now in
    let may = sym c.may_take.ensures ∙ c.if-may_take.true in
    planned_step kernel c.requires.valid scheduling c.requires.scheduling c.step_tried-step.result c.step_tried-step.ensures
    (subst (λ (least : List ℕ). may_take kernel least scheduling.placed c.step_tried-step.result ≡ true) c.as_slice-least.ensures.value may)
