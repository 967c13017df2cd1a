use Rattle.sig_work.proofs.{arith, keeps_looked, keeps_state, looked_served, unlooked_served}
use Rattle.sig_work.proofs.member.Member.rest.Goals as goal

pub returns-then-look-clause-keeps : goal.returns-then-look-clause-keeps
returns-then-look-clause-keeps c = keeps_looked c.args.self.now c.look.new.self c.if-look.ensures.state

pub returns-then-look-clause-seat : goal.returns-then-look-clause-seat
returns-then-look-clause-seat c = record {
  same = c.look-word.ensures.seat.0;
  seen = (let word = c.look-word.ensures.word in omega (arith, word.0.0, word.1));
}

pub returns-then-look-clause-served : goal.returns-then-look-clause-served
returns-then-look-clause-served c = λ given others committed is.
    let does = c.look.ensures.answer.0 c.if-look.true in
    looked_served given c.args.halt.now others committed c.args.self.now c.args.seat.now c.look-word.new.self c.look.new.self c.look-word.result is c.look-word.ensures.seat.0 c.look-word.ensures.seat.1 c.look-word.ensures.word.1
    does.0 does.1 c.if-look.ensures.state (c.look.ensures.kept given.plan given.flows is.done.member.state)

pub returns-clause-keeps : goal.returns-clause-keeps
returns-clause-keeps c = keeps_state c.args.self.now c.look.new.self c.if-look.ensures.state

pub returns-clause-seat : goal.returns-clause-seat
returns-clause-seat c = record {
  same = c.look-word.ensures.seat.0;
  seen = (let word = c.look-word.ensures.word in omega (arith, word.0.0, word.1));
}

pub returns-clause-served : goal.returns-clause-served
returns-clause-served c = λ given others committed is.
    unlooked_served given c.args.halt.now others committed c.args.self.now c.args.seat.now c.look-word.new.self c.look.new.self c.look-word.result is c.look-word.ensures.seat.0 c.look-word.ensures.seat.1 c.look-word.ensures.word.1
    c.if-look.ensures.state c.look-word.ensures.word.0.0
