use Rattle.sig_recursion.proofs.{falls_more, falls_all}
use Rattle.sig_recursion.proofs.ranks.is_falling.Goals as goal

pub loop-place-preserved : goal.loop-place-preserved
loop-place-preserved c = falls_more c.args.callees.now c.args.ranks.now c.loop-place.place c.index-callees-place.result _ c.loop-place-test.true c.index-callees-place.is c.deref.ensures.value (c.falls_to.ensures c.if-not-falls_to.false) c.loop-place.invariant

pub returns : goal.returns
returns c _ = falls_all c.args.callees.now c.args.ranks.now _ c.loop-place-test.false c.loop-place.invariant
