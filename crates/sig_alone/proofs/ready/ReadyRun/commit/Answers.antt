use Rattle.sig_alone.proofs.ready.ReadyRun.commit.Goals as goal

pub returns-clause-next : goal.returns-clause-next
returns-clause-next g c = λ step. c.next_instant.ensures.actor c.args.plan.now c.args.self.now.lowered c.args._inputs.now c.requires.machine step
