use Rattle.sig_type.proofs.{uses_of_equation, equations_of, Body, finds_more, finds_flat, unknown_at, interface_models, Bor}
use Rattle.sig_type.proofs.names.equations.Goals as goal

pub loop-one-preserved : goal.loop-one-preserved
loop-one-preserved c = finds_more _ c.args.all.now c.loop-one.one-index c.one-item.result c.one-item.is c.loop-one-test.true c.loop-one.invariant c.equation.ensures

pub returns : goal.returns
returns c = finds_flat (unknown_at (interface_models c.args.processes.now.interfaces.items) c.args.scope.now) uses_of_equation (λ (b : Bor Body). equations_of b.now) c.args.all.now _ c.loop-one-test.false c.loop-one.invariant
