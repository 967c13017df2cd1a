use Rattle.sig_dd.proofs.{refl, sym, ◌∙◌, subst, Share, refusal_is, eqb-true, eq-eqb, Spans-true, implied, true_of_implied}
use Rattle.sig_dd.proofs.store.Store.implies.Goals as goal

pub returns-clause-value : goal.returns-clause-value
returns-clause-value c = (
  λ t. implied c.args.self.now.nodes c.ite.new.self.nodes c.in_ok-ite.ensures.store.reduced c.args.f c.args.g c.in_ok-ite.field-0 _ refl c.in_ok-ite.ensures.value (eqb-true _ _ (sym c.eq.ensures ∙ t)),
  λ h. c.eq.ensures ∙ eq-eqb _ _ (true_of_implied c.args.self.now.nodes c.ite.new.self.nodes c.in_ok-ite.ensures.store.reduced c.args.f c.args.g c.in_ok-ite.field-0 _ refl c.in_ok-ite.ensures.value h),
)

pub returns-in_err-ite-clause-spends : goal.returns-in_err-ite-clause-spends
returns-in_err-ite-clause-spends c = record {
  over = λ vs s us. subst (Share 1 vs c.args.self.now c.ite.new.self) (sym (refusal_is c.from_residual.result c.in_err-ite.field-0.0 c.from_residual.ensures.1))
      (c.in_err-ite.ensures.spends.over vs (s.0, (s.1.0, (Spans-true c.args.self.now.nodes _ refl vs, tt))) us);
}

pub returns-clause-spends : goal.returns-clause-spends
returns-clause-spends c = record { over = λ vs s us. c.in_ok-ite.ensures.spends.over vs (s.0, (s.1.0, (Spans-true c.args.self.now.nodes _ refl vs, tt))) us }
