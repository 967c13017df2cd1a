use Rattle.sig_interleaving.proofs.{subst, err_from_is_err_and, act_leads, none_rest, resting_serves, LeavesLess, TellsChange, Act, TookPrefix, true}
use Rattle.sig_interleaving.proofs.state.Core.serve_step.Goals as goal

pub returns-in_err-act-clause-part : goal.returns-in_err-act-clause-part
returns-in_err-act-clause-part g c =
    let p = err_from_is_err_and c.from_residual.result c.from_residual.ensures.1 in
    rw p.1 (act_leads (TookPrefix g.S.Sink.took) c.args.k c.args.self.now c.act.new.self c.args.sink.now c.act.new.sink c.requires.rest c.requires.looked true c.in_err-act.ensures.changed c.in_err-act.ensures.part)

pub returns-then-not-branch-clause-leads : goal.returns-then-not-branch-clause-leads
returns-then-not-branch-clause-leads g c =
    act_leads g.S.Sink.took c.args.k c.args.self.now c.act.new.self c.args.sink.now c.act.new.sink c.requires.rest c.requires.looked _ c.in_ok-act.ensures.answer c.in_ok-act.ensures.happened

pub returns-then-not-branch-clause-serves : goal.returns-then-not-branch-clause-serves
returns-then-not-branch-clause-serves g c =
    resting_serves g.S.Sink.took c.args.self.now c.act.new.self c.requires.core c.in_ok-act.ensures.core c.in_ok-act.ensures.run c.plans_are_accepted.ensures c.requires.reached c.args.k c.requires.actor c.requires.rest
    c.requires.looked (subst (TellsChange c.args.self.now (Act c.args.k)) c.if-not-branch.true c.in_ok-act.ensures.answer) c.args.sink.now c.act.new.sink c.in_ok-act.ensures.happened
    (subst (LeavesLess c.args.self.now c.act.new.self) c.if-not-branch.true c.in_ok-act.ensures.left)

pub returns-clause-leads : goal.returns-clause-leads
returns-clause-leads g c = act_leads g.S.Sink.took c.args.k c.args.self.now c.act.new.self c.args.sink.now c.act.new.sink c.requires.rest c.requires.looked _ c.in_ok-act.ensures.answer c.in_ok-act.ensures.happened

pub returns-clause-serves : goal.returns-clause-serves
returns-clause-serves g c =
    none_rest g.S.Sink.took c.args.self.now c.act.new.self c.requires.core c.in_ok-act.ensures.core c.in_ok-act.ensures.run c.plans_are_accepted.ensures c.requires.reached c.args.k c.requires.actor c.requires.rest
    (subst (LeavesLess c.args.self.now c.act.new.self) c.if-not-branch.false c.in_ok-act.ensures.left)
