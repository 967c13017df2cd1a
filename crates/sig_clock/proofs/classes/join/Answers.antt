use Rattle.sig_clock.proofs.{get_or, refl, arith, put_together, turned_round}
use Rattle.sig_clock.proofs.classes.join.Goals as goal

pub returns-then-a-b : goal.returns-then-a-b
returns-then-a-b c = turned_round c.args.least.now c.relabel.new.least c.args.y.0 c.args.x.0
    (put_together c.args.least.now c.relabel.new.least c.args.y.0 c.args.x.0 (get_or c.args.least.now c.args.y.0 0) (get_or c.args.least.now c.args.x.0 0)
    c.requires.y c.requires.x refl refl (omega arith) c.relabel.ensures.count c.relabel.ensures.each)

pub returns-else-a-b : goal.returns-else-a-b
returns-else-a-b c = put_together c.args.least.now c.relabel-else-a-b.new.least c.args.x.0 c.args.y.0 (get_or c.args.least.now c.args.x.0 0) (get_or c.args.least.now c.args.y.0 0)
    c.requires.x c.requires.y refl refl (omega arith) c.relabel-else-a-b.ensures.count c.relabel-else-a-b.ensures.each
