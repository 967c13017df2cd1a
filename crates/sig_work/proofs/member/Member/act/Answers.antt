use Rattle.sig_work.proofs.{refl, subst, sym, None, MayUse, acted_on, ends_stay, may_act, AreSameEnds, HasFoundEmpty, HasFoundFull, puts_of, takes_of, HasDone, run_of, LinkEnds}
use Rattle.sig_work.proofs.member.Member.act.Goals as goal

pub act_on-acted-requires-clause-links : goal.act_on-acted-requires-clause-links
act_on-acted-requires-clause-links g c =
    subst (λ (e : LinkEnds). MayUse c.args.plan.now c.args.self.now.state.actor (puts_of e) (takes_of e)) (sym c.take.ensures)
    (may_act (run_of c.args.plan.now c.args.inputs.now c.requires.run.0 c.requires.run.1) c.plans_are_accepted.ensures c.args.self.now c.requires.run.2 c.requires.run.3)

pub returns-clause-done : goal.returns-clause-done
returns-clause-done g c = λ capacity limit committed is.
    acted_on (run_of c.args.plan.now c.args.inputs.now capacity limit) c.plans_are_accepted.ensures (λ lent. lent.ends) (λ lent. None) (λ link old new. HasFoundFull link old.ends new.ends) (λ link old new. HasFoundEmpty link old.ends new.ends) c.args.self.now committed c.act_on-acted.ensures.steps
    (subst (λ (e : LinkEnds). HasDone (run_of c.args.plan.now c.args.inputs.now capacity limit) committed (record c.args.self.now { ends = e })) (sym c.take.ensures) is)

pub returns-clause-same : goal.returns-clause-same
returns-clause-same g c =
    let stay = ends_stay (run_of c.args.plan.now c.args.inputs.now c.requires.run.0 c.requires.run.1) c.plans_are_accepted.ensures (λ lent. lent.ends) (λ lent. None) (λ link old new. HasFoundFull link old.ends new.ends) (λ link old new. HasFoundEmpty link old.ends new.ends) c.args.self.now c.act_on-acted.ensures.steps in
    record { number = refl; ends = subst (λ (e : LinkEnds). AreSameEnds e c.act_on-acted.new.ends.ends) c.take.ensures stay }
