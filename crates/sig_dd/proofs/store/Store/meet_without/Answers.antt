use Rattle.sig_dd.proofs.{only_spanned, product_forgets, product_share, test, IfOk-weaker}
use Rattle.sig_dd.proofs.store.Store.meet_without.Goals as goal

pub returns-clause-forgets : goal.returns-clause-forgets
returns-clause-forgets c =
    IfOk-weaker c.product_in.result _ _
    (λ r is. product_forgets c.product_in.new.self.nodes c.args.forgotten.now (test c.args.self.now.nodes c.args.f) (test c.args.self.now.nodes c.args.g) r is) c.product_in.ensures.value

pub returns-clause-spends : goal.returns-clause-spends
returns-clause-spends c vs one two =
    let only = only_spanned c.args.self.now.nodes c.product_in.ensures.was_store.reduced _ (c.requires.f, c.requires.g) vs one two in
    product_share vs c.args.self.now c.product_in.new.self c.product_in.result (c.product_in.ensures.added vs only) (λ n is. c.product_in.ensures.budget n is vs only)
