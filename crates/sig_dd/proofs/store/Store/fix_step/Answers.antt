use Rattle.sig_dd.proofs.{suc, arith, sym, ◌∙◌, starts_nowhere, answer_later, fix_later, fix_here, fix_split}
use Rattle.sig_dd.proofs.store.Store.fix_step.Goals as goal

pub returns-in_default-clause-step : goal.returns-in_default-clause-step
returns-in_default-clause-step c =
    answer_later c.args.self.now.nodes c.node.ensures.store.reduced c.args.f c.requires c.args.variable c.args.truth
    (starts_nowhere c.args.self.now.nodes c.node.ensures.store.reduced c.args.f c.requires (sym c.in_default.is ∙ c.node.ensures.node) (suc c.args.variable))

pub returns-then-n-variable-clause-step : goal.returns-then-n-variable-clause-step
returns-then-n-variable-clause-step c =
    fix_here c.args.self.now.nodes c.node.ensures.store.reduced c.args.f c.requires c.in-Some.n c.in-Some.ensures.node c.args.variable c.args.truth
    c.if-n-variable.true c.child.result c.child.ensures

pub returns-then-n-variable-2-clause-step : goal.returns-then-n-variable-2-clause-step
returns-then-n-variable-2-clause-step c =
    fix_later c.args.self.now.nodes c.node.ensures.store.reduced c.args.f c.requires c.in-Some.n c.in-Some.ensures.node c.args.variable c.args.truth
    c.if-n-variable-2.true

pub returns-clause-step : goal.returns-clause-step
returns-clause-step c =
    let apart = c.if-n-variable.false in
    fix_split c.args.self.now.nodes c.node.ensures.store.reduced c.args.f c.requires c.in-Some.n c.in-Some.ensures.node c.args.variable c.args.truth
    (omega arith) c.child-2.result c.child-3.result c.child-2.ensures c.child-3.ensures
