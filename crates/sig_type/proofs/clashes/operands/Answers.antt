use Rattle.sig_type.proofs.{clashes_of_expression, expression_of, finds_more, finds_mapped}
use Rattle.sig_type.proofs.clashes.operands.Goals as goal

pub loop-one-preserved : goal.loop-one-preserved
loop-one-preserved c = finds_more _ c.args.all.now c.loop-one.one-index c.one-item.result c.one-item.is c.loop-one-test.true c.loop-one.invariant c.expression.ensures.clashes

pub returns : goal.returns
returns c = finds_mapped (clashes_of_expression c.args.scope.now) expression_of c.args.all.now _ c.loop-one-test.false c.loop-one.invariant
