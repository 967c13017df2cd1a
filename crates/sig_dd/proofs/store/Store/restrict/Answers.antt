use Rattle.sig_dd.proofs.{TestsOnly-fix}
use Rattle.sig_dd.proofs.store.Store.restrict.Goals as goal

pub returns-clause-spends : goal.returns-clause-spends
returns-clause-spends c = record { over = λ vs s us. c.answer.ensures.spends vs (TestsOnly-fix c.args.self.now.nodes c.answer.ensures.was_store.reduced c.args.f c.args.v c.args.truth c.requires vs s.0) }
