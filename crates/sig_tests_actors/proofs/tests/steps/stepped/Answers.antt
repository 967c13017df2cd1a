use Rattle.sig_interleaving.proofs.UsedLinks.{may_use}
use Rattle.sig_tests_actors.proofs.tests.steps.stepped.Goals as goal

-- the ends are of all links of the plan
pub act-acted-requires-clause-links : goal.act-acted-requires-clause-links
act-acted-requires-clause-links g c = may_use c.args.plan.now c.plans_are_accepted.ensures c.loop.state.actor c.loop.ends.links c.loop.invariant.links
