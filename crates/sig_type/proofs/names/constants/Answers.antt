use Rattle.sig_type.proofs.{names_of_constant, finds_more, finds_spread, unknown_one}
use Rattle.sig_type.proofs.names.constants.Goals as goal

pub loop-one-preserved : goal.loop-one-preserved
loop-one-preserved c = finds_more _ c.args.all.now c.loop-one.one-index c.one-item.result c.one-item.is c.loop-one-test.true c.loop-one.invariant c.constant.ensures

pub returns : goal.returns
returns c = finds_spread (unknown_one c.args.scope.now) names_of_constant c.args.all.now _ c.loop-one-test.false c.loop-one.invariant
