use Rattle.sig_step.proofs.{told_truths}
use Rattle.sig_step.proofs.state.ClusterState.take_step.Goals as goal

pub holds-holds-requires-clause-told : goal.holds-holds-requires-clause-told
holds-holds-requires-clause-told g c = told_truths c.args.plan.now c.args.self.now.actor c.args.inputs.now c.args.self.now.values c.requires.state.values
