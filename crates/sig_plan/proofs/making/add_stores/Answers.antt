use Rattle.sig_plan.proofs.{stores_of, adds_then, equation_more}
use Rattle.sig_plan.proofs.making.add_stores.Goals as goal

pub loop-number-preserved : goal.loop-number-preserved
loop-number-preserved c =
    let signals = c.args.source.now.signals.now in
    adds_then c.args.source.now.clocks.now _ _ _ c.args.ops.now.items c.loop-number.ops.items c.add_store_of.new.ops.items c.loop-number.invariant c.in_ok-add_store_of.ensures
    (λ presence. equation_more (stores_of signals presence) c.args.equations.now c.loop-number.number c.index-equations-number.result c.loop-number-test.true c.index-equations-number.is)
