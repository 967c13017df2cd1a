use Rattle.sig_dd.proofs.{◌∙◌, IfSome, subst, question_of, StoreView, IsAnswer, recalled_if}
use Rattle.sig_dd.proofs.store.Store.recall_choice.Goals as goal

pub returns : goal.returns
returns c =
    subst (λ (s : StoreView). IfSome c.copied.result (IsAnswer s.nodes (question_of c.args.choice))) c.self.view_is
    (recalled_if c.self.inside.nodes.keys c.self.inside.cache.entries c.self.invariant.cache c.args.choice c.copied.result (c.copied.ensures ∙ c.peek.ensures))
