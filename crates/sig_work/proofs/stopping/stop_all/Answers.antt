use Rattle.sig_work.proofs.{◌<◌, arith, get_or, length, refl, set, all_changed, one_changed, ShareStopped, slice_get-get_or}
use Rattle.sig_work.proofs.stopping.stop_all.Goals as goal

pub loop-share-preserved : goal.loop-share-preserved
loop-share-preserved c =
    let lt : c.loop-share.share-index < length c.loop-share.shares = omega (arith, c.loop-share-test.true) in
    one_changed ShareStopped c.args.shares.now c.loop-share.share-index c.loop-share.shares (set c.loop-share.shares c.loop-share.share-index c.stop.new.self)
    (get_or c.loop-share.shares c.loop-share.share-index c.share-item.result) c.stop.new.self c.loop-share.invariant (slice_get-get_or c.loop-share.shares c.loop-share.share-index c.share-item.result lt) refl c.stop.ensures

pub returns : goal.returns
returns c = record {
  count = c.loop-share.invariant.length_stays;
  each = all_changed ShareStopped c.args.shares.now c.loop-share.share-index c.loop-share.shares c.loop-share.invariant
      (let past = c.loop-share-test.false in let stays = c.loop-share.invariant.length_stays in omega (arith, past, stays));
}
