use Rattle.sig_type.proofs.{Declared, Declaration, finds_same, finds_more, finds_mapped, not_is, undefined_in, declaration_in, ◌∷◌, []}
use Rattle.sig_type.proofs.signals.undefined.Goals as goal

pub loop-one-preserved : goal.loop-one-preserved
loop-one-preserved c = finds_more (λ (d : Declared). undefined_in c.args.left_sides.now (declaration_in d ∷ [])) c.args.declared.now c.loop-one.one-index c.one-item.result c.one-item.is c.loop-one-test.true c.loop-one.invariant (finds_same _ (not_is _ (rw c.as_bytes.ensures at c.has.ensures)) c.ask.ensures)

pub returns : goal.returns
returns c = finds_mapped (λ (d : Declaration). undefined_in c.args.left_sides.now (d ∷ [])) declaration_in c.args.declared.now _ c.loop-one-test.false c.loop-one.invariant
