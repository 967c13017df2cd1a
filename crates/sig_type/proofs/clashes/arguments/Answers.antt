use Rattle.sig_type.proofs.{clashes_of_expression, expression_of, Expr, finds_more, finds_mapped, either_true, either_other, refused_more, refused_all, declarations_in, IsTrue, ◌↔◌, ◌⊎◌, ◌∙◌}
use Rattle.sig_type.proofs.clashes.arguments.Goals.{then-unfit, else-unfit}
use Rattle.sig_type.proofs.clashes.arguments.Goals as goal

pub loop-place-preserved : goal.loop-place-preserved
loop-place-preserved c =
    let joined : IsTrue c.if-unfit.unfit ↔ (IsTrue c.loop-place.unfit ⊎ IsTrue c.does_not_take-refused.result) =
    elim c.if-unfit.branch [ then-unfit w ↦ either_true _ w.if-unfit.true (w.unfit-is ∙ w.if-unfit.true) | else-unfit w ↦ either_other w.if-unfit.false w.unfit-is ] in (
      finds_more (λ (e : Expr). clashes_of_expression c.args.scope.now (expression_of e)) c.args.all.now c.loop-place.place c.index-all-place.result c.index-all-place.is c.loop-place-test.true c.loop-place.invariant.0 c.expression-given.ensures.clashes,
      refused_more c.args.scope.now c.args.all.now (declarations_in c.args.inputs.now) c.loop-place.place c.index-all-place.result _ _ _ c.index-all-place.is c.loop-place-test.true joined
          (rw (c.kind_at.ensures, c.expression-given.ensures.kind) at c.does_not_take-refused.ensures) c.loop-place.invariant.1,
    )

pub returns : goal.returns
returns c = record {
  clashes = finds_mapped (clashes_of_expression c.args.scope.now) expression_of c.args.all.now _ c.loop-place-test.false c.loop-place.invariant.0;
  unfit = refused_all c.args.scope.now c.args.all.now (declarations_in c.args.inputs.now) _ _ c.loop-place-test.false c.loop-place.invariant.1;
}
