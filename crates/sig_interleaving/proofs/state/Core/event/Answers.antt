use Rattle.sig_interleaving.proofs.{reached_by}
use Rattle.sig_interleaving.proofs.state.Core.event.Goals as goal

pub returns-clause-reached : goal.returns-clause-reached
returns-clause-reached g c =
    reached_by g.S.Sink.took c.args.e c.args.self.now c.happen-result.new.self c.args.sink.now c.happen-result.new.sink c.happen-result.ensures.run c.happen-result.result
    c.happen-result.ensures.happened c.happen-result.ensures.part
