use Rattle.sig_work.proofs.{get_or, refl, given_share, slice_get-get_or}
use Rattle.sig_work.proofs.handing.give.Goals as goal

pub returns : goal.returns
returns c =
    given_share c.args.shares.now c.args.at (get_or c.args.shares.now c.args.at c.index-shares-at.result) _ c.args.member
    (slice_get-get_or c.args.shares.now c.args.at c.index-shares-at.result c.requires.there) refl c.push_reserved.ensures.items c.push_reserved.ensures.capacity
