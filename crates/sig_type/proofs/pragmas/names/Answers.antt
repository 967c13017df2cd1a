use Rattle.sig_type.proofs.{texts, placed_twice, placed_turn, placed_texts, finds_as, ap, ◌∙◌, ◌++◌, take_all}
use Rattle.sig_type.proofs.pragmas.names.Goals as goal

pub loop-name-preserved : goal.loop-name-preserved
loop-name-preserved c = record {
  named = placed_texts _ _ _ c.args.names.now c.loop-name.name-index c.name-item.result c.name-item.is c.loop-name-test.true c.loop-name.invariant.named (rw c.as_bytes.ensures at c.in_ok-again.ensures.added);
  finds = placed_turn c.args.scope.now c.args.earlier.now c.loop-name.earlier c.args.names.now c.loop-name.name-index c.name-item.result _ _ c.name-item.is c.loop-name-test.true c.loop-name.invariant.named
      (rw c.as_bytes.ensures at c.in_ok-again.ensures.before) c.is_misplaced.ensures c.loop-name.invariant.finds c.ask.ensures;
}

pub returns : goal.returns
returns c = record {
  added = c.loop-name.invariant.named ∙ ap (λ ns. c.args.earlier.now ++ texts ns) (take_all _ c.args.names.now c.loop-name-test.false);
  twice = finds_as (ap (placed_twice c.args.scope.now c.args.earlier.now) (take_all _ c.args.names.now c.loop-name-test.false)) c.loop-name.invariant.finds;
}
