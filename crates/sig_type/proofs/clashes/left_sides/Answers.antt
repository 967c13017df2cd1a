use Rattle.sig_type.proofs.{Name, clash_of_left, finds_more, finds_all, ◌∷◌, []}
use Rattle.sig_type.proofs.clashes.left_sides.Goals as goal

pub loop-name-preserved : goal.loop-name-preserved
loop-name-preserved c = finds_more (λ (n : Name). clash_of_left c.args.scope.now c.args.given n ∷ []) c.args.names.now c.loop-name.name-index c.name-item.result c.name-item.is c.loop-name-test.true c.loop-name.invariant c.left_side.ensures

pub returns : goal.returns
returns c = finds_all (λ (n : Name). clash_of_left c.args.scope.now c.args.given n ∷ []) c.args.names.now _ c.loop-name-test.false c.loop-name.invariant
