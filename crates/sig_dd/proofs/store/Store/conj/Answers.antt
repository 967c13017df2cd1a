use Rattle.sig_dd.proofs.{refl, test, IsRefOf-same, Spans-false, test-false, and_of, IfOk-weaker}
use Rattle.sig_dd.proofs.store.Store.conj.Goals as goal

pub returns-clause-value : goal.returns-clause-value
returns-clause-value c =
    IfOk-weaker c.ite.result _ _ (IsRefOf-same c.ite.new.self.nodes _ _ (λ ts. and_of (test c.args.self.now.nodes c.args.f ts) (test c.args.self.now.nodes c.args.g ts) (test c.args.self.now.nodes (record { number = 0 }) ts) (test-false c.args.self.now.nodes _ refl ts))) c.ite.ensures.value

pub returns-clause-spends : goal.returns-clause-spends
returns-clause-spends c = record { over = λ vs s us. c.ite.ensures.spends.over vs (s.0, (s.1.0, (Spans-false c.args.self.now.nodes _ refl vs, tt))) us }
