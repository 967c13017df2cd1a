use Rattle.sig_work.proofs.{◌<◌, packed, place_of, had_ended, stopped_before, stops}
use Rattle.sig_work.proofs.member.Member.stop.Goals as goal

pub returns-then-look : goal.returns-then-look
returns-then-look c = stops c.args.self.now c.look.new.self (c.look.ensures.answer.0 c.if-look.true).0 c.if-look.ensures.state c.look.ensures.kept

pub returns-else-look : goal.returns-else-look
returns-else-look c =
    stopped_before c.args.self.now c.look.new.self c.if-look.ensures.state
    (had_ended c.args.self.now.state.ended c.look.result (0 < packed (place_of c.args.self.now.state)) c.look.ensures.answer c.requires c.if-look.false)
