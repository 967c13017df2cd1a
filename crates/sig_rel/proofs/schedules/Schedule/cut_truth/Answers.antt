use Rattle.sig_rel.proofs.{refl, schedule_with_cut}
use Rattle.sig_rel.proofs.schedules.Schedule.cut_truth.Goals as goal

pub returns-then-signal-len : goal.returns-then-signal-len
returns-then-signal-len c = λ kernel is. schedule_with_cut kernel c.args.self.now _ c.args.signal refl refl refl refl is
