use Rattle.sig_rel.proofs.{Option, subst, MatchOption, IsPlannedStep, IsWhole, Step, scheduling_more}
use Rattle.sig_rel.proofs.schedules.Scheduling.schedule_all.Goals as goal

pub loop-step-preserved : goal.loop-step-preserved
loop-step-preserved c =
    let kernel = c.args.kernel.now in
    let old = c.loop-step.self in
    let planned : IsPlannedStep kernel old c.in-Some.step = subst (λ (o : Option Step). MatchOption o (IsWhole kernel old) (IsPlannedStep kernel old)) c.in-Some.is c.in_ok-step.ensures in
    scheduling_more kernel old c.take.new.self c.in-Some.step c.loop-step.invariant planned c.in_ok-take.ensures
