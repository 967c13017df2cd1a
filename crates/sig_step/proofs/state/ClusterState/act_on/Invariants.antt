use Rattle.sig_step.proofs.{◌≡◌, ◌≤◌, ◌+◌, ℕ, false, DoesSteps, IsSameActor, IsStateOf, instant_of}
use Rattle.sig_step.proofs.state.ClusterState.act_on.Given as goal

abbrev pub decreases-loop-left : goal.decreases-loop-left
decreases-loop-left g l = l.left

abbrev pub invariant-loop-left : goal.invariant-loop-left
invariant-loop-left g l = record {
  done : (count : ℕ) × (count + l.left ≡ l.more) × DoesSteps g.E.Ends.past g.E.Ends.queues g.E.Ends.found_full g.E.Ends.found_empty g.E.Ends.same l.plan l.inputs count l.fn.self l.self l.fn.ends l.ends l.fn.steps l.steps;
  here : instant_of l.self.values ≡ instant_of l.fn.self.values;
  state : IsStateOf l.plan l.inputs l.self;
  same : IsSameActor l.fn.self l.self;
  runs : l.self.ended ≡ false;
  within : instant_of l.self.values ≤ l.self.limit;
  pushes : g.E.Ends.pushes l.ends ≡ g.E.Ends.pushes l.fn.ends;
  pops : g.E.Ends.pops l.ends ≡ g.E.Ends.pops l.fn.ends;
}
