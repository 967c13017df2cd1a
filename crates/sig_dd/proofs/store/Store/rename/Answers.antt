use Rattle.sig_dd.proofs.{tests_spanned, renamed_depends, renamed_share, Depends-Tests, IfOk-weaker}
use Rattle.sig_dd.proofs.store.Store.rename.Goals as goal

pub returns-clause-depends : goal.returns-clause-depends
returns-clause-depends c =
    IfOk-weaker c.rename_in.result _ _
    (λ r is w depends.
    let (v, tested, at) = renamed_depends c.args.self.now.nodes c.rename_in.new.self.nodes c.args.to.now c.args.f r is w depends in
    (v, Depends-Tests c.args.self.now.nodes c.rename_in.ensures.was_store.reduced c.args.f c.requires v tested, at)) c.rename_in.ensures.value

pub returns-clause-spends : goal.returns-clause-spends
returns-clause-spends c vs spans =
    let only = tests_spanned c.args.self.now.nodes c.rename_in.ensures.was_store.reduced c.args.f c.requires vs spans in
    renamed_share vs c.args.self.now c.rename_in.new.self c.rename_in.result (c.rename_in.ensures.added vs only) (λ n is. c.rename_in.ensures.budget n is vs only)
