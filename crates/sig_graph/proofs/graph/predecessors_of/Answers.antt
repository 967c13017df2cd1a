use Rattle.sig_graph.proofs.{List, subst, take_all, IsBefore, Op, before_more}
use Rattle.sig_graph.proofs.graph.predecessors_of.Goals as goal

pub loop-number-preserved : goal.loop-number-preserved
loop-number-preserved c = λ conditions exact.
    before_more conditions c.args.store.now.nodes c.args.ops.now c.args.q.now c.index-ops-number.result c.loop-number.number c.loop-number-test.true c.index-ops-number.is c.loop-number.list c.add.new.list c.in_ok-comes_before.field-0
    (c.loop-number.invariant conditions exact) (c.in_ok-comes_before.ensures conditions exact) c.in_ok-add.ensures

pub returns : goal.returns
returns c = λ conditions exact.
    subst (λ (ops : List Op). IsBefore conditions c.args.store.now.nodes ops c.args.q.now c.loop-number.list) (take_all c.loop-number.number c.args.ops.now c.loop-number-test.false) (c.loop-number.invariant conditions exact)
