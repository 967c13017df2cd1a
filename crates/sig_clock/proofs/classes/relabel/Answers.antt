use Rattle.sig_clock.proofs.{arith, one_relabelled}
use Rattle.sig_clock.proofs.classes.relabel.Goals as goal

pub loop-number-preserved : goal.loop-number-preserved
loop-number-preserved c = one_relabelled c.args.from c.args.to c.loop-number.number-index c.args.least.now c.loop-number.least c.relabel_one.result (omega arith) c.relabel_one.ensures c.loop-number.invariant
