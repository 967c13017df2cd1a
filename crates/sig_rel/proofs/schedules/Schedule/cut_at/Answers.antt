use Rattle.sig_rel.proofs.{refl, schedule_stays}
use Rattle.sig_rel.proofs.schedules.Schedule.cut_at.Goals as goal

pub returns-in-Some-2 : goal.returns-in-Some-2
returns-in-Some-2 c = c.cut_truth.ensures c.args.kernel.now (schedule_stays c.args.kernel.now c.args.self.now _ refl refl c.requires)

pub returns-in-None : goal.returns-in-None
returns-in-None c = schedule_stays c.args.kernel.now c.args.self.now _ refl refl c.requires
