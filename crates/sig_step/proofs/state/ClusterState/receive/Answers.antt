use Rattle.sig_step.proofs.{◌≡◌, ℕ, ℤ, Some, rules, subst, to_z-of_z, w64, with_signal, if_signal, may_with, takes_item, actor_in, seen_in, ActorMachine, ClusterState}
use Rattle.sig_step.proofs.state.ClusterState.receive.Goals as goal

pub write-requires : goal.write-requires
write-requires g c = (c.args.plan.now, c.args.self.now.actor, c.args.inputs.now, c.requires.may.state.values, if_signal c.args.plan.now c.args.signal c.requires.there)

pub move_on-requires-clause-may : goal.move_on-requires-clause-may
move_on-requires-clause-may g c = (
  c.args.inputs.now,
  may_with c.args.plan.now c.args.inputs.now c.args.self.now c.requires.runnable c.requires.may c.write.new.self
      (c.write.ensures.machine c.args.plan.now c.args.self.now.actor c.args.inputs.now c.requires.may.state.values)
      c.write.ensures.instant c.args.signal _ c.write.ensures.seen c.requires.fills,
)

pub returns-in-Some-clause-state : goal.returns-in-Some-clause-state
returns-in-Some-clause-state g c =
    c.move_on.ensures.state c.args.inputs.now
    (may_with c.args.plan.now c.args.inputs.now c.args.self.now c.requires.runnable c.requires.may c.write.new.self
    (c.write.ensures.machine c.args.plan.now c.args.self.now.actor c.args.inputs.now c.requires.may.state.values)
    c.write.ensures.instant c.args.signal _ c.write.ensures.seen c.requires.fills)

pub returns-in-Some-clause-turn : goal.returns-in-Some-clause-turn
returns-in-Some-clause-turn g c =
    let s : ClusterState = c.args.self.now in
    let v : ActorMachine = c.write.new.self in
    let written = subst (λ (z : ℤ). (step : ℕ) → actor_in v step ≡ record (actor_in s.values step) { registers = with_signal c.args.signal (Some z) (seen_in s.values) })
    (to_z-of_z w64 c.in-Some.item (search rules)) c.write.ensures.actor in
    takes_item g.E.Ends.past g.E.Ends.queues c.args.plan.now s c.move_on.new.self v c.args.link c.args.signal c.in-Some.item c.args.ends.now c.pop.new.self written
    c.move_on.ensures.moves c.in-Some.ensures.asked
