use Rattle.sig_step.proofs.{sym, subst, code_of, turn_by, StepKind, Commit, commits, finds_none, turn_alone, TakesTurn, IsReady, actor_of, CommitDone}
use Rattle.sig_step.proofs.state.ClusterState.perform.Goals as goal

pub returns-in-Commit-clause-turn : goal.returns-in-Commit-clause-turn
returns-in-Commit-clause-turn g c =
    let plan = c.args.plan.now in
    let s = c.args.self.now in
    let ready = subst (IsReady plan c.args.inputs.now s) c.in-Commit.is c.requires.ready in
    subst (λ (kind : StepKind). TakesTurn g.E.Ends.past g.E.Ends.queues plan.kernel (turn_by plan c.args.inputs.now (code_of plan s.actor) (actor_of s) kind)
    CommitDone s c.move_on.new.self c.args.ends.now c.args.ends.now) (sym c.in-Commit.is)
    (turn_alone g.E.Ends.past g.E.Ends.queues plan.kernel (turn_by plan c.args.inputs.now (code_of plan s.actor) (actor_of s) Commit) CommitDone s c.move_on.new.self c.args.ends.now
    (commits plan c.args.inputs.now s c.move_on.new.self ready c.move_on.ensures.moves))

pub returns-in-Do-clause-found : goal.returns-in-Do-clause-found
returns-in-Do-clause-found g c = finds_none g.E.Ends.found_full g.E.Ends.found_empty c.operate.result c.operate.ensures.alone c.args.ends.now
