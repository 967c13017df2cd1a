use Rattle.sig_rel.proofs.{refl, schedule_stays}
use Rattle.sig_rel.proofs.schedules.Schedule.link_equations.Goals as goal

pub loop-number-preserved : goal.loop-number-preserved
loop-number-preserved c = schedule_stays c.args.kernel.now c.loop-number.self _ refl refl c.loop-number.invariant
