use Rattle.sig_dd.proofs.{arith, refl, test, IsRefOf-same, Spans-true, TestsOnly-pick, test-true, or_of, IfOk-weaker}
use Rattle.sig_dd.proofs.store.Store.either_beside.Goals as goal

pub returns-clause-value : goal.returns-clause-value
returns-clause-value c =
    IfOk-weaker c.answer_beside.result _ _ (IsRefOf-same c.answer_beside.new.self.nodes _ _ (λ ts. or_of (test c.args.self.now.nodes c.args.f ts) (test c.args.self.now.nodes (record { number = 1 }) ts) (test c.args.self.now.nodes c.args.g ts) (test-true c.args.self.now.nodes _ refl ts))) c.answer_beside.ensures.value

pub returns-clause-spends : goal.returns-clause-spends
returns-clause-spends c vs one two =
    c.answer_beside.ensures.spends vs (TestsOnly-pick c.args.self.now.nodes c.answer_beside.ensures.was_store.reduced c.args.f (record { number = 1 }) c.args.g (c.requires.f, omega arith, c.requires.g) vs one (Spans-true c.args.self.now.nodes _ refl vs) two)
