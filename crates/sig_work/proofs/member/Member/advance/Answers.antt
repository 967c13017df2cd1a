use Rattle.sig_work.proofs.{handed_keeps, handed_serves}
use Rattle.sig_work.proofs.member.Member.advance.Goals as goal

pub returns-clause-keeps : goal.returns-clause-keeps
returns-clause-keeps g c = handed_keeps c.go.new.self c.hand_over.new.self c.hand_over.ensures.rest c.hand_over.ensures.ends c.args.self.now c.go.ensures.keeps

pub returns-clause-serves : goal.returns-clause-serves
returns-clause-serves g c =
    handed_serves c.go.new.self c.hand_over.new.self c.hand_over.ensures.rest c.hand_over.ensures.ends g.S.Sink.took c.args.plan.now c.args.inputs.now c.args.halt.now
    c.args.self.now c.args.seat.now c.go.new.seat c.args.sink.now c.go.new.sink c.in_ok-round.ensures.serves
