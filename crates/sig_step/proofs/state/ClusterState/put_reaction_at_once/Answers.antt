use Rattle.sig_step.proofs.{last_in}
use Rattle.sig_step.proofs.state.ClusterState.put_reaction_at_once.Goals as goal

pub returns-clause-all : goal.returns-clause-all
returns-clause-all g c = c.put_reaction.ensures.all (last_in c.args.self.now.values) (λ number seen below told. told)

pub returns-clause-prefix : goal.returns-clause-prefix
returns-clause-prefix g c = c.put_reaction.ensures.prefix (last_in c.args.self.now.values) (λ number seen below told. told)
