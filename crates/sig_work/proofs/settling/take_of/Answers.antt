use Rattle.sig_work.proofs.{get_or, left_one, member_within, take_none, take_some, room_at, share_at, But, Each}
use Rattle.sig_work.proofs.settling.take_of.Goals as goal

pub returns-in_err-spot-clause-none : goal.returns-in_err-spot-clause-none
returns-in_err-spot-clause-none c = rw c.from_residual.ensures (λ m one. absurd (c.in_err-spot.ensures.none m one))

pub take_take-requires-clause-there : goal.take_take-requires-clause-there
take_take-requires-clause-there c = member_within c.args.shares.now c.args.reader c.in_ok-spot.spot c.in_ok-spot.ensures.some c.index-shares-spot.result

pub take_take-requires-clause-room : goal.take_take-requires-clause-room
take_take-requires-clause-room c = λ m is. (room_at c.args.shares.now c.args.reader c.in_ok-spot.spot c.in_ok-spot.ensures.some c.index-shares-spot.result c.args.link c.requires.room m is).1

pub returns-clause-left : goal.returns-clause-left
returns-clause-left c =
    left_one Each (But c.args.link) c.args.shares.now c.in_ok-spot.spot.share (get_or c.args.shares.now c.in_ok-spot.spot.share c.index-shares-spot.result) c.take_take.new.self
    (share_at c.args.shares.now c.args.reader c.in_ok-spot.spot c.in_ok-spot.ensures.some c.index-shares-spot.result) c.take_take.ensures.left

pub returns-clause-some : goal.returns-clause-some
returns-clause-some c =
    take_some c.args.shares.now c.args.reader c.in_ok-spot.spot c.in_ok-spot.ensures.some c.index-shares-spot.result c.requires.single c.args.link c.take_take.result c.take_take.ensures.take

pub returns-clause-none : goal.returns-clause-none
returns-clause-none c =
    take_none c.args.shares.now c.args.reader c.in_ok-spot.spot c.in_ok-spot.ensures.some c.index-shares-spot.result c.requires.single c.args.link c.take_take.result c.take_take.ensures.take
