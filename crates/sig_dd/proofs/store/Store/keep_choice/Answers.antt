use Rattle.sig_dd.proofs.{sym, subst, question_of, StoreView, HoldsAll, IsAnswer, IsCache-after}
use Rattle.sig_dd.proofs.store.Store.keep_choice.Goals as goal

pub invariant_of-self : goal.invariant_of-self
invariant_of-self c = record {
  store = c.self.invariant.store;
  numbered = c.self.invariant.numbered;
  cache = IsCache-after c.put-kept.result c.self.inside.nodes.keys c.self.inside.cache c.put-kept.new.self c.args.choice c.args.r c.self.invariant.cache
      (subst (λ (s : StoreView). HoldsAll s.nodes (question_of c.args.choice)) (sym c.self.view_is) c.requires.held)
      (subst (λ (s : StoreView). IsAnswer s.nodes (question_of c.args.choice) c.args.r) (sym c.self.view_is) c.requires.answer)
      c.put-kept.ensures.entries c.put-kept.ensures.err;
}
