use Rattle.sig_type.proofs.{clashes_of_equation, equations_of, Body, finds_more, finds_mapped, interface_models, Bor}
use Rattle.sig_type.proofs.clashes.equations.Goals as goal

pub loop-one-preserved : goal.loop-one-preserved
loop-one-preserved c = finds_more _ c.args.all.now c.loop-one.one-index c.one-item.result c.one-item.is c.loop-one-test.true c.loop-one.invariant c.equation.ensures

pub returns : goal.returns
returns c = finds_mapped (clashes_of_equation (interface_models c.args.processes.now.interfaces.items) c.args.scope.now) (λ (b : Bor Body). equations_of b.now) c.args.all.now _ c.loop-one-test.false c.loop-one.invariant
