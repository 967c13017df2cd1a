use Rattle.sig_type.proofs.{finds_more, finds_all, unknown_one}
use Rattle.sig_type.proofs.names.names.Goals as goal

pub loop-one-preserved : goal.loop-one-preserved
loop-one-preserved c = finds_more (unknown_one c.args.scope.now) c.args.names.now c.loop-one.one-index c.one-item.result c.one-item.is c.loop-one-test.true c.loop-one.invariant c.name.ensures

pub returns : goal.returns
returns c = finds_all (unknown_one c.args.scope.now) c.args.names.now _ c.loop-one-test.false c.loop-one.invariant
