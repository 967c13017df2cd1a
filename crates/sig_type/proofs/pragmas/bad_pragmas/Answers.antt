use Rattle.sig_type.proofs.{IsCluster, bad_pragmas_of, placement_of, pragmas_turn, pragmas_texts, finds_as, finds_same, not_is, ap, map, [], take_all}
use Rattle.sig_type.proofs.pragmas.bad_pragmas.Goals as goal

pub loop-pragma-preserved : goal.loop-pragma-preserved
loop-pragma-preserved c = record {
  named = pragmas_texts placement_of c.args.pragmas.now c.loop-pragma.pragma-index c.pragma-item.result _ _ c.pragma-item.is c.loop-pragma-test.true c.loop-pragma.invariant.named (rw c.deref.ensures.value at c.in_ok-names.ensures.added);
  finds = pragmas_turn c.args.scope.now placement_of c.args.pragmas.now c.loop-pragma.pragma-index c.pragma-item.result _ c.pragma-item.is c.loop-pragma-test.true c.loop-pragma.invariant.named c.loop-pragma.invariant.finds
      (finds_same (IsCluster c.pragma-item.result.label → ⊥) (not_is _ (rw c.as_bytes.ensures at c.is_cluster.ensures)) c.ask.ensures) (rw c.deref.ensures.value at c.in_ok-names.ensures.twice);
}

pub returns : goal.returns
returns c = finds_as (ap (λ ps. bad_pragmas_of c.args.scope.now [] (map placement_of ps)) (take_all _ c.args.pragmas.now c.loop-pragma-test.false)) c.loop-pragma.invariant.finds
