use Rattle.sig_work.proofs.{◌≡◌, ap, arith, Ok, Result, err_from_is_err_and, TookPrefix, WriteFault, joins_part, share_some, share_still, share_then, all_have_ended, keeps_share, more_ended, share_keeps_then, Round, Ended}
use Rattle.sig_work.proofs.share.Share.advance.Goals as goal

pub loop-number-init : goal.loop-number-init
loop-number-init g c = record {
  keeps = keeps_share c.args.self.now;
  serves = share_still g.S.Sink.took c.args.plan.now c.args.inputs.now c.args.halt.now c.args.self.now c.args.sink.now (g.met.S.Sink.took_nothing c.args.sink.now);
  ended = λ e j lt. absurd (omega (arith, lt));
  faults = omega arith;
}

pub advance_member-requires : goal.advance_member-requires
advance_member-requires g c = record {
  run = share_some g.S.Sink.took c.args.plan.now c.args.inputs.now c.args.halt.now c.args.self.now c.loop-number.self c.args.sink.now c.loop-number.sink c.loop-number.invariant.serves c.requires.run;
  there = (
      let count = c.loop-number.invariant.keeps.count in
      let len = c.len-number-end.ensures in
      let whole = c.args.self.now.members.ok.0 in
      let test = c.loop-number-test.true in
      omega (arith, count, len, whole, test)
      );
}

pub returns-in_err-advance_member-clause-keeps : goal.returns-in_err-advance_member-clause-keeps
returns-in_err-advance_member-clause-keeps g c = share_keeps_then c.args.self.now c.loop-number.self c.advance_member.new.self c.loop-number.invariant.keeps c.advance_member.ensures.keeps

pub returns-in_err-advance_member-clause-part : goal.returns-in_err-advance_member-clause-part
returns-in_err-advance_member-clause-part g c =
    let p = err_from_is_err_and c.from_residual.result c.from_residual.ensures.1 in
    rw p.1 (share_then g.S.Sink.took (TookPrefix g.S.Sink.took) (joins_part g.S.Sink.took g.met.S.Sink.took_both) c.args.plan.now c.args.inputs.now c.args.halt.now c.args.sink.now c.loop-number.sink c.advance_member.new.sink
    c.args.self.now c.loop-number.self c.advance_member.new.self c.advance_member.ensures.keeps c.loop-number.invariant.serves c.in_err-advance_member.ensures.part)

pub loop-number-preserved : goal.loop-number-preserved
loop-number-preserved g c = record {
  keeps = share_keeps_then c.args.self.now c.loop-number.self c.advance_member.new.self c.loop-number.invariant.keeps c.advance_member.ensures.keeps;
  serves = share_then g.S.Sink.took g.S.Sink.took g.met.S.Sink.took_both c.args.plan.now c.args.inputs.now c.args.halt.now c.args.sink.now c.loop-number.sink c.advance_member.new.sink
      c.args.self.now c.loop-number.self c.advance_member.new.self c.advance_member.ensures.keeps c.loop-number.invariant.serves c.in_ok-advance_member.ensures.serves;
  ended = λ is.
      let both = c.and-round.ensures is in
      more_ended c.loop-number.self c.advance_member.new.self c.advance_member.ensures.keeps c.loop-number.number (c.loop-number.invariant.ended both.0)
      (c.in_ok-advance_member.ensures.ended (ap (λ (r : Round). let answer : Result Round WriteFault = Ok r in answer) both.1));
  faults = omega (arith, c.loop-number.invariant.faults, c.advance_member.ensures.faults_stay);
}

pub returns-clause-ended : goal.returns-clause-ended
returns-clause-ended g c = λ answer.
    let same : c.loop-number.round ≡ Ended = cc in
    all_have_ended c.loop-number.self c.loop-number.number (
    let count = c.loop-number.invariant.keeps.count in
    let len = c.len-number-end.ensures in
    let whole = c.args.self.now.members.ok.0 in
    let test = c.loop-number-test.false in
    omega (arith, count, len, whole, test)
    ) (c.loop-number.invariant.ended same)
