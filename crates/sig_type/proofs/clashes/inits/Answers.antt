use Rattle.sig_type.proofs.{Declaration, clash_of_init, finds_more, finds_mapped, declaration_in, Some}
use Rattle.sig_type.proofs.clashes.inits.Goals as goal

pub loop-one-preserved : goal.loop-one-preserved
loop-one-preserved c = finds_more _ c.args.declared.now c.loop-one.one-index c.one-item.result c.one-item.is c.loop-one-test.true c.loop-one.invariant c.init.ensures

pub returns : goal.returns
returns c = finds_mapped (λ (d : Declaration). clash_of_init c.args.scope.now (Some d.kind) d.init) declaration_in c.args.declared.now _ c.loop-one-test.false c.loop-one.invariant
