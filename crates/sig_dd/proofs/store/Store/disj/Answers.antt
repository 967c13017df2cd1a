use Rattle.sig_dd.proofs.{refl, test, IsRefOf-same, Spans-true, test-true, or_of, IfOk-weaker}
use Rattle.sig_dd.proofs.store.Store.disj.Goals as goal

pub returns-clause-value : goal.returns-clause-value
returns-clause-value c =
    IfOk-weaker c.ite.result _ _ (IsRefOf-same c.ite.new.self.nodes _ _ (λ ts. or_of (test c.args.self.now.nodes c.args.f ts) (test c.args.self.now.nodes (record { number = 1 }) ts) (test c.args.self.now.nodes c.args.g ts) (test-true c.args.self.now.nodes _ refl ts))) c.ite.ensures.value

pub returns-clause-spends : goal.returns-clause-spends
returns-clause-spends c = record { over = λ vs s us. c.ite.ensures.spends.over vs (s.0, (Spans-true c.args.self.now.nodes _ refl vs, (s.1.0, tt))) us }
