use Rattle.sig_type.proofs.{names_of_init, Declaration, finds_more, finds_flat, unknown_one, declaration_in}
use Rattle.sig_type.proofs.names.inits.Goals as goal

pub loop-one-preserved : goal.loop-one-preserved
loop-one-preserved c = finds_more _ c.args.declared.now c.loop-one.one-index c.one-item.result c.one-item.is c.loop-one-test.true c.loop-one.invariant c.init.ensures

pub returns : goal.returns
returns c = finds_flat (unknown_one c.args.scope.now) (λ (d : Declaration). names_of_init d.init) declaration_in c.args.declared.now _ c.loop-one-test.false c.loop-one.invariant
