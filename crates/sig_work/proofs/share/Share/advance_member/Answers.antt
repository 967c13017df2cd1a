use Rattle.sig_work.proofs.{◌≡◌, refl, Some, slice_get, with_item, slice_get_read, on_err_weaker, on_ok_weaker, TookPrefix, ended_here, one_member, least_but, member_may, member_served, commits_of, run_of, Share}
use Rattle.sig_work.proofs.share.Share.advance_member.Given.{Over}
use Rattle.sig_work.proofs.share.Share.advance_member.Goals as goal

module _ (g : Over) (c : goal.After-self-1 g) where
  there : slice_get c.args.self.now.members.items c.args.number ≡ Some c.index_mut-member.result.now
  there = slice_get_read c.args.self.now.members.items _ c.args.number c.index_mut-member.result.now refl c.requires.there c.index_mut-member.ensures.value

  abbrev behind : Share
  behind = record { members = with_item c.args.self.now.members c.args.number c.advance.new.self; seat = c.advance.new.seat }

pub advance-requires : goal.advance-requires
advance-requires g c =
    let run = c.requires.run in
    let there : slice_get c.args.self.now.members.items c.args.number ≡ Some c.index_mut-member.result.now =
    slice_get_read c.args.self.now.members.items _ c.args.number c.index_mut-member.result.now refl c.requires.there c.index_mut-member.ensures.value in record {
      run = (
        run.0,
        run.1,
        least_but c.args.number c.args.self.now.members.items,
        commits_of (run_of c.args.plan.now c.args.inputs.now run.0 run.1) run.2 c.index_mut-member.result.now,
        member_may c.args.plan.now c.args.inputs.now c.args.halt.now c.args.self.now c.args.number c.index_mut-member.result.now there run.0 run.1 run.2 run.3,
      );
    }

pub returns-clause-keeps : goal.returns-clause-keeps
returns-clause-keeps g c =
    one_member c.args.self.now (behind g c) c.args.number c.index_mut-member.result.now c.advance.new.self (there g c) refl c.advance.ensures.keeps c.advance.ensures.seat.same

pub returns-clause-ended : goal.returns-clause-ended
returns-clause-ended g c = λ answer. ended_here c.args.self.now (behind g c) c.args.number c.index_mut-member.result.now c.advance.new.self (there g c) refl (c.advance.ensures.ended answer)

pub returns-clause-serves : goal.returns-clause-serves
returns-clause-serves g c =
    on_ok_weaker c.advance.result
    (member_served g.S.Sink.took c.args.plan.now c.args.inputs.now c.args.halt.now c.args.self.now (behind g c) c.args.number c.index_mut-member.result.now c.advance.new.self (there g c) refl c.advance.ensures.keeps c.advance.ensures.seat
    c.args.sink.now c.advance.new.sink)
    c.advance.ensures.serves

pub returns-clause-part : goal.returns-clause-part
returns-clause-part g c =
    on_err_weaker c.advance.result
    (member_served (TookPrefix g.S.Sink.took) c.args.plan.now c.args.inputs.now c.args.halt.now c.args.self.now (behind g c) c.args.number c.index_mut-member.result.now c.advance.new.self (there g c) refl c.advance.ensures.keeps c.advance.ensures.seat
    c.args.sink.now c.advance.new.sink)
    c.advance.ensures.part
