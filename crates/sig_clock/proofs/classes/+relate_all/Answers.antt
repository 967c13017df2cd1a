use Rattle.sig_clock.proofs.{length, nil_from_length, alone_joined, first_below, operands_joined}
use Rattle.sig_clock.proofs.classes.+relate_all.Goals as goal

pub returns-in-Some : goal.returns-in-Some
returns-in-Some t c = operands_joined c.args.least.now c.relate_one.new.least c.relate_all.new.least c.args.y.0 c.args.operands.now c.in-Some.first.now c.in-Some.others.now
    c.in-Some.ensures.cases.0 c.requires.y (first_below (length c.args.least.now) c.args.operands.now c.in-Some.first.now c.in-Some.others.now c.in-Some.ensures.cases.0 c.requires.operands) c.relate_one.ensures c.relate_all.ensures

pub returns-in-None : goal.returns-in-None
returns-in-None t c = rw (nil_from_length c.args.operands.now c.in-None.ensures.cases) (alone_joined c.args.least.now c.args.y.0)
