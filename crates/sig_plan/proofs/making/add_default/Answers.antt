use Rattle.sig_plan.proofs.{sym, ap, ◌∙◌, ◌∷◌, [], ◌++◌, List, subst, Some, on_ok_weaker, SigId, Extends, cluster_at, default_of, Op, Left, Right, extends_default, spends_after, spends_after_err, spends_refused}
use Rattle.sig_plan.proofs.making.add_default.Goals as goal

pub returns-in_err-other-clause-spends : goal.returns-in_err-other-clause-spends
returns-in_err-other-clause-spends c =
    spends_refused c.args.source.now.clocks.now 2 c.args.store.now c.without.new.store c.in_err-other.field-0.0 c.from_residual-in_err-other.result c.in_err-other.ensures.store c.in_err-other.ensures.kept
    (λ vs over. c.in_err-other.ensures.spends vs (over c.guard.result c.guard.ensures.among) (over c.guard-guard.result c.guard-guard.ensures.among)) c.from_residual-in_err-other.ensures.1

pub returns-in_err-add-clause-spends : goal.returns-in_err-add-clause-spends
returns-in_err-add-clause-spends c =
    spends_after_err c.args.source.now.clocks.now 2 c.args.store.now c.without.new.store c.in_err-add.field-0.0 c.from_residual-in_err-add.result c.in_ok-other.ensures.store c.in_ok-other.ensures.kept
    (λ vs over. c.in_ok-other.ensures.spends vs (over c.guard.result c.guard.ensures.among) (over c.guard-guard.result c.guard-guard.ensures.among)) c.in_err-add.ensures.refused c.from_residual-in_err-add.ensures.1

pub returns-clause-spends : goal.returns-clause-spends
returns-clause-spends c =
    spends_after c.args.source.now.clocks.now 2 c.args.store.now c.without.new.store c.add-2.result c.in_ok-other.ensures.store c.in_ok-other.ensures.kept
    (λ vs over. c.in_ok-other.ensures.spends vs (over c.guard.result c.guard.ensures.among) (over c.guard-guard.result c.guard-guard.ensures.among)) c.add-2.ensures.refused

pub returns-clause-adds : goal.returns-clause-adds
returns-clause-adds c =
    let signals = c.args.source.now.signals.now in
    let s = c.args.store.now in
    let t = c.without.new.store in
    on_ok_weaker c.add-2.result (λ added.
    subst (λ (ops : List Op). Extends s.nodes t.nodes c.args.source.now.clocks.now (λ presence. default_of signals presence c.args.number c.args.y c.args.u c.args.v) c.args.ops.now.items ops)
    (sym (added ∙ ap (λ (ops : List Op). ops ++ c.taking-2.result ∷ []) c.in_ok-add.ensures.added))
    (extends_default s t c.in_ok-other.ensures.kept c.args.source.now.clocks.now signals c.args.number c.args.y c.args.u c.args.v c.guard-guard.result c.guard.result c.in_ok-other.other c.args.ops.now.items c.taking.result c.taking-2.result
    (c.requires.held c.guard-guard.result c.guard-guard.ensures.among) c.requires.ops c.guard-guard.ensures.is c.guard.ensures.is c.in_ok-other.ensures.value
    (c.taking.ensures ∙ ap (λ (reads : List SigId). let op : Op = record { kind = Left; guard = c.guard-guard.result; writes = Some c.args.y; reads = reads; eq = Some c.args.number; actor = cluster_at signals c.args.y } in op) c.in_ok-left.ensures)
    (c.taking-2.ensures ∙ ap (λ (reads : List SigId). let op : Op = record { kind = Right; guard = c.in_ok-other.other; writes = Some c.args.y; reads = reads; eq = Some c.args.number; actor = cluster_at signals c.args.y } in op) c.in_ok-right.ensures)))
    c.add-2.ensures.added
