use Rattle.sig_alone.proofs.{whole_run}
use Rattle.sig_alone.proofs.run.run_alone.Goals as goal

pub returns-in-Ok-run-clause-whole : goal.returns-in-Ok-run-clause-whole
returns-in-Ok-run-clause-whole g c = whole_run c.args.plan.now c.args.inputs.now c.args.limit g.S.Sink.took c.args.sink.now c.run.new.sink c.in-Ok-run.ended c.in-Ok-run.ensures.whole
