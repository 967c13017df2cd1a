use Rattle.sig_type.proofs.{Name, finds_same, finds_more, finds_mapped, given_in, Bor, ◌∷◌, []}
use Rattle.sig_type.proofs.signals.inputs_defined.Goals as goal

pub loop-name-preserved : goal.loop-name-preserved
loop-name-preserved c = finds_more (λ (n : Bor Name). given_in c.args.scope.now (n.now ∷ [])) c.args.left_sides.now c.loop-name.name-index c.name-item.result c.name-item.is c.loop-name-test.true c.loop-name.invariant (finds_same _ c.is_given.ensures c.ask.ensures)

pub returns : goal.returns
returns c = finds_mapped (λ (n : Name). given_in c.args.scope.now (n ∷ [])) (λ (n : Bor Name). n.now) c.args.left_sides.now _ c.loop-name-test.false c.loop-name.invariant
