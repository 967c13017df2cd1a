use Rattle.sig_work.proofs.{arith, err_from_is_err_and, TookPrefix, joins_part, shares_some, shares_still, shares_then, keeps_shares, shares_keep_then}
use Rattle.sig_work.proofs.serving.serve_on.Goals as goal

pub rounds-init : goal.rounds-init
rounds-init g c = record {
  keeps = keeps_shares c.args.shares.now;
  serves = shares_still g.S.Sink.took c.args.plan.now c.args.inputs.now c.args.halt.now c.args.shares.now c.args.sink.now (g.met.S.Sink.took_nothing c.args.sink.now);
  faults = omega arith;
}

pub serve_round-requires : goal.serve_round-requires
serve_round-requires g c = record {
  run = shares_some g.S.Sink.took c.args.plan.now c.args.inputs.now c.args.halt.now c.args.shares.now c.rounds.shares c.args.sink.now c.rounds.sink c.rounds.invariant.serves c.requires.run;
}

pub returns-in_err-serve_round-clause-keeps : goal.returns-in_err-serve_round-clause-keeps
returns-in_err-serve_round-clause-keeps g c = shares_keep_then c.args.shares.now c.rounds.shares c.serve_round.new.shares c.rounds.invariant.keeps c.serve_round.ensures.keeps

pub returns-in_err-serve_round-clause-part : goal.returns-in_err-serve_round-clause-part
returns-in_err-serve_round-clause-part g c =
    let p = err_from_is_err_and c.from_residual.result c.from_residual.ensures.1 in
    rw p.1 (shares_then g.S.Sink.took (TookPrefix g.S.Sink.took) (joins_part g.S.Sink.took g.met.S.Sink.took_both) c.args.plan.now c.args.inputs.now c.args.halt.now c.args.sink.now c.rounds.sink c.serve_round.new.sink
    c.args.shares.now c.rounds.shares c.serve_round.new.shares c.serve_round.ensures.keeps c.rounds.invariant.serves c.in_err-serve_round.ensures.part)

pub returns-then-is_over-clause-keeps : goal.returns-then-is_over-clause-keeps
returns-then-is_over-clause-keeps g c = shares_keep_then c.args.shares.now c.rounds.shares c.serve_round.new.shares c.rounds.invariant.keeps c.serve_round.ensures.keeps

pub returns-then-is_over-clause-serves : goal.returns-then-is_over-clause-serves
returns-then-is_over-clause-serves g c =
    shares_then g.S.Sink.took g.S.Sink.took g.met.S.Sink.took_both c.args.plan.now c.args.inputs.now c.args.halt.now c.args.sink.now c.rounds.sink c.serve_round.new.sink
    c.args.shares.now c.rounds.shares c.serve_round.new.shares c.serve_round.ensures.keeps c.rounds.invariant.serves c.in_ok-serve_round.ensures.serves

pub rounds-preserved : goal.rounds-preserved
rounds-preserved g c = record {
  keeps = shares_keep_then c.args.shares.now c.rounds.shares c.serve_round.new.shares c.rounds.invariant.keeps c.serve_round.ensures.keeps;
  serves = shares_then g.S.Sink.took g.S.Sink.took g.met.S.Sink.took_both c.args.plan.now c.args.inputs.now c.args.halt.now c.args.sink.now c.rounds.sink c.serve_round.new.sink
      c.args.shares.now c.rounds.shares c.serve_round.new.shares c.serve_round.ensures.keeps c.rounds.invariant.serves c.in_ok-serve_round.ensures.serves;
  faults = omega (arith, c.rounds.invariant.faults, c.serve_round.ensures.faults_stay);
}

pub rounds-preserved-in-Still : goal.rounds-preserved-in-Still
rounds-preserved-in-Still g c = record {
  keeps = shares_keep_then c.args.shares.now c.rounds.shares c.serve_round.new.shares c.rounds.invariant.keeps c.serve_round.ensures.keeps;
  serves = shares_then g.S.Sink.took g.S.Sink.took g.met.S.Sink.took_both c.args.plan.now c.args.inputs.now c.args.halt.now c.args.sink.now c.rounds.sink c.serve_round.new.sink
      c.args.shares.now c.rounds.shares c.serve_round.new.shares c.serve_round.ensures.keeps c.rounds.invariant.serves c.in_ok-serve_round.ensures.serves;
  faults = omega (arith, c.rounds.invariant.faults, c.serve_round.ensures.faults_stay);
}

pub rounds-preserved-in-Ended : goal.rounds-preserved-in-Ended
rounds-preserved-in-Ended g c = record {
  keeps = shares_keep_then c.args.shares.now c.rounds.shares c.serve_round.new.shares c.rounds.invariant.keeps c.serve_round.ensures.keeps;
  serves = shares_then g.S.Sink.took g.S.Sink.took g.met.S.Sink.took_both c.args.plan.now c.args.inputs.now c.args.halt.now c.args.sink.now c.rounds.sink c.serve_round.new.sink
      c.args.shares.now c.rounds.shares c.serve_round.new.shares c.serve_round.ensures.keeps c.rounds.invariant.serves c.in_ok-serve_round.ensures.serves;
  faults = omega (arith, c.rounds.invariant.faults, c.serve_round.ensures.faults_stay);
}
