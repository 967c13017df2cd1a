use Rattle.sig_work.proofs.{shares_all, shares_more, item_at}
use Rattle.sig_work.proofs.word.least_failure.Goals as goal

pub loop-share-preserved : goal.loop-share-preserved
loop-share-preserved c = rw c.min-least.ensures
    (shares_more c.args.shares.now c.loop-share.share-index c.loop-share.least c.share-item.result c.least_failure.result c.loop-share.invariant
    (item_at c.args.shares.now c.loop-share.share-index c.share-item.result c.loop-share-test.true c.share-item.is)
    c.least_failure.ensures)

pub returns : goal.returns
returns c = shares_all c.args.shares.now c.loop-share.least c.loop-share.share-index c.loop-share-test.false c.loop-share.invariant
