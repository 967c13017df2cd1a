use Rattle.sig_work.proofs.{get_or, left_one, member_within, put_none, put_some, room_at, share_at, But, Each}
use Rattle.sig_work.proofs.settling.put_of.Goals as goal

pub returns-in_err-spot-clause-none : goal.returns-in_err-spot-clause-none
returns-in_err-spot-clause-none c = rw c.from_residual.ensures (λ m one. absurd (c.in_err-spot.ensures.none m one))

pub take_put-requires-clause-there : goal.take_put-requires-clause-there
take_put-requires-clause-there c = member_within c.args.shares.now c.args.writer c.in_ok-spot.spot c.in_ok-spot.ensures.some c.index-shares-spot.result

pub take_put-requires-clause-room : goal.take_put-requires-clause-room
take_put-requires-clause-room c = λ m is. (room_at c.args.shares.now c.args.writer c.in_ok-spot.spot c.in_ok-spot.ensures.some c.index-shares-spot.result c.args.link c.requires.room m is).0

pub returns-clause-left : goal.returns-clause-left
returns-clause-left c =
    left_one (But c.args.link) Each c.args.shares.now c.in_ok-spot.spot.share (get_or c.args.shares.now c.in_ok-spot.spot.share c.index-shares-spot.result) c.take_put.new.self
    (share_at c.args.shares.now c.args.writer c.in_ok-spot.spot c.in_ok-spot.ensures.some c.index-shares-spot.result) c.take_put.ensures.left

pub returns-clause-some : goal.returns-clause-some
returns-clause-some c =
    put_some c.args.shares.now c.args.writer c.in_ok-spot.spot c.in_ok-spot.ensures.some c.index-shares-spot.result c.requires.single c.args.link c.take_put.result c.take_put.ensures.put

pub returns-clause-none : goal.returns-clause-none
returns-clause-none c =
    put_none c.args.shares.now c.args.writer c.in_ok-spot.spot c.in_ok-spot.ensures.some c.index-shares-spot.result c.requires.single c.args.link c.take_put.result c.take_put.ensures.put
