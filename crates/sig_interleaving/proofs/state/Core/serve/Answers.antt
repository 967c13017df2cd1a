use Rattle.sig_interleaving.proofs.{event_leads, kept_happened, look_first, looked_serves, Look}
use Rattle.sig_interleaving.proofs.state.Core.serve.Goals as goal

pub returns-then-look-clause-leads : goal.returns-then-look-clause-leads
returns-then-look-clause-leads g c =
    event_leads g.S.Sink.took (Look c.args.k) c.args.self.now c.look.new.self c.args.sink.now c.args.sink.now
    (look_first c.args.self.now c.args.k c.requires.rest c.if-look.ensures.answer)
    (kept_happened g.S.Sink.took c.args.self.now c.look.new.self (Look c.args.k) c.args.sink.now (g.met.S.Sink.took_nothing c.args.sink.now) c.if-look.ensures.happened)

pub returns-then-look-clause-serves : goal.returns-then-look-clause-serves
returns-then-look-clause-serves g c =
    looked_serves g.S.Sink.took c.args.self.now c.look.new.self c.requires.core c.if-look.ensures.core c.if-look.ensures.run c.plans_are_accepted.ensures c.requires.reached c.args.k c.requires.actor c.requires.rest
    c.if-look.ensures.touches c.if-look.ensures.word c.if-look.ensures.left
