use Rattle.sig_recursion.proofs.{visits_more, visits_seen, arith, get_or_default}
use Rattle.sig_recursion.proofs.calls.visit.Goals.{then-not-visited-place+in_ok-push, else-not-visited-place}
use Rattle.sig_recursion.proofs.calls.visit.Goals as goal

pub loop-place-preserved : goal.loop-place-preserved
loop-place-preserved c =
    let below = c.requires c.loop-place.place-index 0 c.loop-place-test.true in
    let size = c.loop-place.invariant.size in
    elim c.if-not-visited-place.branch [
      | then-not-visited-place+in_ok-push w ↦ rw (w.visited-is, w.waiting-is, w.in_ok-push.ensures.items)
          (visits_more _ c.loop-place.visited _ c.loop-place.waiting.items c.args.places.now c.loop-place.place-index _ (get_or_default c.args.places.now c.loop-place.place-index 0 _ c.loop-place-test.true) c.loop-place-test.true (omega (arith, below, size)) w.if-not-visited-place.true c.loop-place.invariant)
      | else-not-visited-place w ↦ rw (w.visited-is, w.waiting-is)
          (visits_seen _ c.loop-place.visited _ c.loop-place.waiting.items c.args.places.now c.loop-place.place-index _ (get_or_default c.args.places.now c.loop-place.place-index 0 _ c.loop-place-test.true) c.loop-place-test.true w.if-not-visited-place.false c.loop-place.invariant)
    ]
