use Rattle.sig_work.proofs.{◌≡◌, arith, err_from_is_err_and, TookPrefix, joins_part, member_some, member_still, member_then, keeps_member, keeps_seat, keeps_then, seat_then, Ended, Moved, Still}
use Rattle.sig_work.proofs.member.Member.go.Goals as goal

pub loop-init : goal.loop-init
loop-init g c = record {
  keeps = keeps_member c.args.self.now;
  seat = keeps_seat c.args.seat.now;
  serves = member_still g.S.Sink.took c.args.plan.now c.args.inputs.now c.args.halt.now c.args.self.now c.args.seat.now c.args.sink.now (g.met.S.Sink.took_nothing c.args.sink.now);
  running = λ e. (let clash : Still ≡ Ended = e in cc);
  faults = omega arith;
}

pub turn-requires : goal.turn-requires
turn-requires g c = record {
  run = member_some g.S.Sink.took c.args.plan.now c.args.inputs.now c.args.halt.now c.args.self.now c.args.seat.now c.loop.self c.loop.seat c.args.sink.now c.loop.sink c.loop.invariant.serves c.requires.run;
}

pub returns-in_err-turn-clause-keeps : goal.returns-in_err-turn-clause-keeps
returns-in_err-turn-clause-keeps g c = keeps_then c.args.self.now c.loop.self c.turn.new.self c.loop.invariant.keeps c.turn.ensures.keeps

pub returns-in_err-turn-clause-part : goal.returns-in_err-turn-clause-part
returns-in_err-turn-clause-part g c =
    let p = err_from_is_err_and c.from_residual.result c.from_residual.ensures.1 in
    rw p.1 (member_then g.S.Sink.took (TookPrefix g.S.Sink.took) (joins_part g.S.Sink.took g.met.S.Sink.took_both) c.args.plan.now c.args.inputs.now c.args.halt.now c.args.sink.now c.loop.sink c.turn.new.sink
    c.args.self.now c.args.seat.now c.loop.self c.loop.seat c.turn.new.self c.turn.new.seat c.turn.ensures.keeps c.loop.invariant.serves c.in_err-turn.ensures.part)

pub returns-in-Ended-clause-keeps : goal.returns-in-Ended-clause-keeps
returns-in-Ended-clause-keeps g c = keeps_then c.args.self.now c.loop.self c.turn.new.self c.loop.invariant.keeps c.turn.ensures.keeps

pub returns-in-Ended-clause-serves : goal.returns-in-Ended-clause-serves
returns-in-Ended-clause-serves g c =
    member_then g.S.Sink.took g.S.Sink.took g.met.S.Sink.took_both c.args.plan.now c.args.inputs.now c.args.halt.now c.args.sink.now c.loop.sink c.turn.new.sink
    c.args.self.now c.args.seat.now c.loop.self c.loop.seat c.turn.new.self c.turn.new.seat c.turn.ensures.keeps c.loop.invariant.serves c.in_ok-turn.ensures.serves

pub loop-preserved : goal.loop-preserved
loop-preserved g c = record {
  keeps = keeps_then c.args.self.now c.loop.self c.turn.new.self c.loop.invariant.keeps c.turn.ensures.keeps;
  seat = seat_then c.args.seat.now c.loop.seat c.turn.new.seat c.loop.invariant.seat c.turn.ensures.seat;
  serves = member_then g.S.Sink.took g.S.Sink.took g.met.S.Sink.took_both c.args.plan.now c.args.inputs.now c.args.halt.now c.args.sink.now c.loop.sink c.turn.new.sink
      c.args.self.now c.args.seat.now c.loop.self c.loop.seat c.turn.new.self c.turn.new.seat c.turn.ensures.keeps c.loop.invariant.serves c.in_ok-turn.ensures.serves;
  running = λ e. (let clash : Moved ≡ Ended = e in cc);
  faults = omega (arith, c.loop.invariant.faults, c.turn.ensures.faults_stay);
}

pub returns-in-Still-clause-keeps : goal.returns-in-Still-clause-keeps
returns-in-Still-clause-keeps g c = keeps_then c.args.self.now c.loop.self c.turn.new.self c.loop.invariant.keeps c.turn.ensures.keeps

pub returns-in-Still-clause-serves : goal.returns-in-Still-clause-serves
returns-in-Still-clause-serves g c =
    member_then g.S.Sink.took g.S.Sink.took g.met.S.Sink.took_both c.args.plan.now c.args.inputs.now c.args.halt.now c.args.sink.now c.loop.sink c.turn.new.sink
    c.args.self.now c.args.seat.now c.loop.self c.loop.seat c.turn.new.self c.turn.new.seat c.turn.ensures.keeps c.loop.invariant.serves c.in_ok-turn.ensures.serves

pub returns-in-Stuck-clause-keeps : goal.returns-in-Stuck-clause-keeps
returns-in-Stuck-clause-keeps g c = keeps_then c.args.self.now c.loop.self c.turn.new.self c.loop.invariant.keeps c.turn.ensures.keeps

pub returns-in-Stuck-clause-serves : goal.returns-in-Stuck-clause-serves
returns-in-Stuck-clause-serves g c =
    member_then g.S.Sink.took g.S.Sink.took g.met.S.Sink.took_both c.args.plan.now c.args.inputs.now c.args.halt.now c.args.sink.now c.loop.sink c.turn.new.sink
    c.args.self.now c.args.seat.now c.loop.self c.loop.seat c.turn.new.self c.turn.new.seat c.turn.ensures.keeps c.loop.invariant.serves c.in_ok-turn.ensures.serves
