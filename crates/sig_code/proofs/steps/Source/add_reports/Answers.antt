use Rattle.sig_code.proofs.{doing, ending, adds_numbered}
use Rattle.sig_code.proofs.steps.Source.add_reports.Goals as goal

pub loop-number-preserved : goal.loop-number-preserved
loop-number-preserved c =
    adds_numbered c.args.self.now.store.now.nodes (doing c.args.self.now.store.now.nodes c.args.at.guard c.args.at.pos) (ending c.args.self.now.clusters c.args.actor) c.args.self.now.links.now c.loop-number.number _ c.ending-kind.result
    c.args.code.now c.loop-number.code c.add_if_any.new.code c.loop-number-test.true c.loop-number.invariant c.ending-kind.ensures c.in_ok-add_if_any.ensures
