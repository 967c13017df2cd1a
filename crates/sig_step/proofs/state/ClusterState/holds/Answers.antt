use Rattle.sig_step.proofs.{◌∙◌, counts, noted, noted_met, walk_value}
use Rattle.sig_step.proofs.state.ClusterState.holds.Goals as goal

pub walk-holds-requires-clause-needs : goal.walk-holds-requires-clause-needs
walk-holds-requires-clause-needs g c = λ v depends. c.requires.runnable.needs c.args.self.now.actor c.args.number c.slot_at-slot.result c.slot_at-slot.ensures v depends

pub returns-clause-value : goal.returns-clause-value
returns-clause-value g c =
    walk_value c.args.plan.now c.args.self.now c.requires.runnable c.requires.marks c.args.number c.slot_at-slot.result c.slot_at-slot.ensures c.requires.step
    c.walk-holds.result c.walk-holds.ensures.value

pub returns-clause-marks : goal.returns-clause-marks
returns-clause-marks g c =
    noted c.args.plan.now c.args.self.now c.requires.runnable c.requires.marks c.args.number c.slot_at-slot.result c.slot_at-slot.ensures c.requires.step
    c.walk-holds.result (returns-clause-value g c) c.note.new.self c.note.ensures.stays c.note.ensures.marks

pub returns-clause-met : goal.returns-clause-met
returns-clause-met g c =
    noted_met c.args.plan.now c.args.self.now c.requires.runnable c.requires.marks c.args.number c.slot_at-slot.result c.slot_at-slot.ensures c.requires.step
    c.walk-holds.result c.note.new.self c.note.ensures.stays c.note.ensures.marks

pub returns-clause-counted : goal.returns-clause-counted
returns-clause-counted g c =
    counts c.args.plan.now c.args.self.now c.requires.runnable c.requires.marks c.args.number c.slot_at-slot.result c.slot_at-slot.ensures c.requires.step
    c.args.steps.now c.walk-holds.new.steps c.walk-holds.ensures.needs c.walk-holds.ensures.parent
    (λ holds is. c.in_default.not-Some holds (c.known.ensures ∙ is))
