use Rattle.sig_type.proofs.{Expr, bare_alone, expression_of, finds_more, finds_mapped}
use Rattle.sig_type.proofs.bare.each_alone.Goals as goal

pub loop-one-preserved : goal.loop-one-preserved
loop-one-preserved c = finds_more (λ (e : Expr). bare_alone c.args.scope.now (expression_of e)) c.args.all.now c.loop-one.one-index c.one-item.result c.one-item.is c.loop-one-test.true c.loop-one.invariant c.alone.ensures

pub returns : goal.returns
returns c = finds_mapped (bare_alone c.args.scope.now) expression_of c.args.all.now _ c.loop-one-test.false c.loop-one.invariant
