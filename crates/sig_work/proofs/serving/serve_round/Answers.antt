use Rattle.sig_work.proofs.{◌≡◌, ap, arith, Ok, Result, err_from_is_err_and, TookPrefix, WriteFault, joins_part, shares_some, shares_still, shares_then, have_all_ended, keeps_shares, more_have_ended, shares_keep_then, Round, Ended}
use Rattle.sig_work.proofs.serving.serve_round.Goals as goal

pub loop-at-init : goal.loop-at-init
loop-at-init g c = record {
  keeps = keeps_shares c.args.shares.now;
  serves = shares_still g.S.Sink.took c.args.plan.now c.args.inputs.now c.args.halt.now c.args.shares.now c.args.sink.now (g.met.S.Sink.took_nothing c.args.sink.now);
  ended = λ e j lt. absurd (omega (arith, lt));
  faults = omega arith;
}

pub advance_at-requires : goal.advance_at-requires
advance_at-requires g c = record {
  run = shares_some g.S.Sink.took c.args.plan.now c.args.inputs.now c.args.halt.now c.args.shares.now c.loop-at.shares c.args.sink.now c.loop-at.sink c.loop-at.invariant.serves c.requires.run;
  there = (let count = c.loop-at.invariant.keeps.count in let test = c.loop-at-test.true in omega (arith, count, test));
}

pub returns-in_err-advance_at-clause-keeps : goal.returns-in_err-advance_at-clause-keeps
returns-in_err-advance_at-clause-keeps g c = shares_keep_then c.args.shares.now c.loop-at.shares c.advance_at.new.shares c.loop-at.invariant.keeps c.advance_at.ensures.keeps

pub returns-in_err-advance_at-clause-part : goal.returns-in_err-advance_at-clause-part
returns-in_err-advance_at-clause-part g c =
    let p = err_from_is_err_and c.from_residual.result c.from_residual.ensures.1 in
    rw p.1 (shares_then g.S.Sink.took (TookPrefix g.S.Sink.took) (joins_part g.S.Sink.took g.met.S.Sink.took_both) c.args.plan.now c.args.inputs.now c.args.halt.now c.args.sink.now c.loop-at.sink c.advance_at.new.sink
    c.args.shares.now c.loop-at.shares c.advance_at.new.shares c.advance_at.ensures.keeps c.loop-at.invariant.serves c.in_err-advance_at.ensures.part)

pub loop-at-preserved : goal.loop-at-preserved
loop-at-preserved g c = record {
  keeps = shares_keep_then c.args.shares.now c.loop-at.shares c.advance_at.new.shares c.loop-at.invariant.keeps c.advance_at.ensures.keeps;
  serves = shares_then g.S.Sink.took g.S.Sink.took g.met.S.Sink.took_both c.args.plan.now c.args.inputs.now c.args.halt.now c.args.sink.now c.loop-at.sink c.advance_at.new.sink
      c.args.shares.now c.loop-at.shares c.advance_at.new.shares c.advance_at.ensures.keeps c.loop-at.invariant.serves c.in_ok-advance_at.ensures.serves;
  ended = λ is.
      let both = c.and-round.ensures is in
      more_have_ended c.loop-at.shares c.advance_at.new.shares c.advance_at.ensures.keeps c.loop-at.at (c.loop-at.invariant.ended both.0)
      (c.in_ok-advance_at.ensures.ended (ap (λ (r : Round). let answer : Result Round WriteFault = Ok r in answer) both.1));
  faults = omega (arith, c.loop-at.invariant.faults, c.advance_at.ensures.faults_stay);
}

pub returns-clause-ended : goal.returns-clause-ended
returns-clause-ended g c = λ answer.
    let same : c.loop-at.round ≡ Ended = cc in
    have_all_ended c.loop-at.shares c.loop-at.at (let count = c.loop-at.invariant.keeps.count in let test = c.loop-at-test.false in omega (arith, count, test)) (c.loop-at.invariant.ended same)
