use Rattle.sig_work.proofs.{both_left, left_weaker, room_left, settled_both, settled_without_put, settled_without_take, single_left, take_before, take_none_before, But, Each}
use Rattle.sig_work.proofs.settling.settle_link.Goals as goal

pub returns-in_default-clause-left : goal.returns-in_default-clause-left
returns-in_default-clause-left g c = left_weaker c.args.number c.args.shares.now c.put_of.new.shares c.put_of.ensures.left

pub returns-in_default-clause-settled : goal.returns-in_default-clause-settled
returns-in_default-clause-settled g c = settled_without_put c.args.shares.now c.requires.single c.args.number c.args.info.now c.in_default.ensures.none

pub take_of-requires-clause-single : goal.take_of-requires-clause-single
take_of-requires-clause-single g c = single_left (But c.args.number) Each c.args.shares.now c.put_of.new.shares c.put_of.ensures.left c.requires.single

pub take_of-requires-clause-room : goal.take_of-requires-clause-room
take_of-requires-clause-room g c = room_left (But c.args.number) Each c.args.shares.now c.put_of.new.shares c.put_of.ensures.left c.args.number c.requires.room

pub returns-in_default-take_of-clause-left : goal.returns-in_default-take_of-clause-left
returns-in_default-take_of-clause-left g c = both_left c.args.number c.args.shares.now c.put_of.new.shares c.take_of.new.shares c.put_of.ensures.left c.take_of.ensures.left

pub returns-in_default-take_of-clause-settled : goal.returns-in_default-take_of-clause-settled
returns-in_default-take_of-clause-settled g c = settled_without_take c.args.shares.now c.requires.single c.args.number c.args.info.now
    (take_none_before c.args.number c.args.shares.now c.put_of.new.shares c.put_of.ensures.left c.args.info.now.reader c.in_default-take_of.ensures.none)

pub settle-requires : goal.settle-requires
settle-requires g c =
    let put = c.in-Some.ensures.some in
    let take = take_before c.args.number c.args.shares.now c.put_of.new.shares c.put_of.ensures.left c.args.info.now.reader c.in-Some-take_of.take c.in-Some-take_of.ensures.some in
    c.requires.linked put.member put.among take.member take.among c.in-Some.put c.in-Some-take_of.take put.is take.is

pub returns-clause-left : goal.returns-clause-left
returns-clause-left g c = both_left c.args.number c.args.shares.now c.put_of.new.shares c.take_of.new.shares c.put_of.ensures.left c.take_of.ensures.left

pub returns-clause-settled : goal.returns-clause-settled
returns-clause-settled g c = settled_both c.args.shares.now c.requires.single c.args.number c.args.info.now c.in-Some.put c.in-Some-take_of.take c.in-Some.ensures.some
    (take_before c.args.number c.args.shares.now c.put_of.new.shares c.put_of.ensures.left c.args.info.now.reader c.in-Some-take_of.take c.in-Some-take_of.ensures.some) c.settle.ensures
