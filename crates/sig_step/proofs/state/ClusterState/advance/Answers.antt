use Rattle.sig_step.proofs.{behind_last}
use Rattle.sig_step.proofs.state.ClusterState.advance.Goals as goal

pub returns-else-self-count-clause-actor : goal.returns-else-self-count-clause-actor
returns-else-self-count-clause-actor c =
    let (plan, k, flows, is) = c.requires.machine in
    behind_last c.args.count c.args.self.now c.next_instant.new.self c.if-self-count.false (c.next_instant.ensures.actor plan k flows is c.args.self.now.step)
