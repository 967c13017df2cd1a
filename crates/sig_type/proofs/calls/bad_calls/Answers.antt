use Rattle.sig_type.proofs.{bad_calls_of, equations_of, Body, finds_more, finds_mapped, interface_models, Bor}
use Rattle.sig_type.proofs.calls.bad_calls.Goals as goal

pub loop-one-preserved : goal.loop-one-preserved
loop-one-preserved c = finds_more _ c.args.all.now c.loop-one.one-index c.one-item.result c.one-item.is c.loop-one-test.true c.loop-one.invariant c.equation.ensures

pub returns : goal.returns
returns c = finds_mapped (bad_calls_of (interface_models c.args.processes.now.interfaces.items)) (λ (b : Bor Body). equations_of b.now) c.args.all.now _ c.loop-one-test.false c.loop-one.invariant
