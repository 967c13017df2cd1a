use Rattle.sig_dd.proofs.{TestsOnly-pick}
use Rattle.sig_dd.proofs.store.Store.ite.Goals as goal

pub returns-clause-spends : goal.returns-clause-spends
returns-clause-spends c = record { over = λ vs s us. c.answer.ensures.spends vs (TestsOnly-pick c.args.self.now.nodes c.answer.ensures.was_store.reduced c.args.f c.args.g c.args.h (c.requires.f, c.requires.g, c.requires.h) vs s.0 s.1.0 s.1.1.0) }
