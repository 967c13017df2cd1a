use Rattle.sig_step.proofs.{rules, subst, IsStepDone, does_op, done_may_go_on, op_done, op_failed_with, op_there, state_ended}
use Rattle.sig_step.proofs.state.ClusterState.do_operation.Goals as goal

pub follow-requires-clause-op : goal.follow-requires-clause-op
follow-requires-clause-op c =
    let (op, there) = op_there c.args.plan.now c.args.inputs.now c.args.self.now c.args._o c.requires.ready in
    (op, does_op c.args.plan.now c.args.inputs.now c.args.self.now c.args._o c.requires.ready op there)

pub move_on-requires-clause-may : goal.move_on-requires-clause-may
move_on-requires-clause-may c =
    let plan = c.args.plan.now in
    let s = c.args.self.now in
    let (op, there) = op_there plan c.args.inputs.now s c.args._o c.requires.ready in
    let done = subst (λ b. IsStepDone plan.kernel c.args.inputs.now op b s.values c.follow.new.self) c.if-follow.true (c.follow.ensures.done op (does_op plan c.args.inputs.now s c.args._o c.requires.ready op there)) in
    (c.args.inputs.now, done_may_go_on plan c.args.inputs.now s c.args._o c.requires.ready op there c.follow.new.self done.0 done.2 c.follow.ensures.machine)

pub returns-then-follow : goal.returns-then-follow
returns-then-follow c =
    let plan = c.args.plan.now in
    let s = c.args.self.now in
    let (op, there) = op_there plan c.args.inputs.now s c.args._o c.requires.ready in
    let done = subst (λ b. IsStepDone plan.kernel c.args.inputs.now op b s.values c.follow.new.self) c.if-follow.true (c.follow.ensures.done op (does_op plan c.args.inputs.now s c.args._o c.requires.ready op there)) in
    record {
      acts = op_done plan c.args.inputs.now s c.args._o c.requires.ready op there c.follow.new.self done.0 done.2 done.1 c.move_on.new.self c.move_on.ensures.moves;
      state = c.move_on.ensures.state c.args.inputs.now (done_may_go_on plan c.args.inputs.now s c.args._o c.requires.ready op there c.follow.new.self done.0 done.2 c.follow.ensures.machine);
      same = search rules;
    }

pub returns-else-follow : goal.returns-else-follow
returns-else-follow c =
    let plan = c.args.plan.now in
    let s = c.args.self.now in
    let (op, there) = op_there plan c.args.inputs.now s c.args._o c.requires.ready in
    let done = subst (λ b. IsStepDone plan.kernel c.args.inputs.now op b s.values c.follow.new.self) c.if-follow.false (c.follow.ensures.done op (does_op plan c.args.inputs.now s c.args._o c.requires.ready op there)) in
    record {
      acts = op_failed_with plan c.args.inputs.now s c.args._o c.requires.ready op there done.0 done.1 c.follow.new.self done.2 c.next_place.result c.next_place.ensures;
      state = state_ended plan c.args.inputs.now s c.requires.ready.may.state c.follow.new.self done.2;
      same = search rules;
    }
