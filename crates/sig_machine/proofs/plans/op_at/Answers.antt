use Rattle.sig_machine.proofs.{◌<◌, ◌∙◌, List, ap, sym, subst, length, get_or, OpId, Op, shaped, op_there, stands_there}
use Rattle.sig_machine.proofs.plans.op_at.Goals as goal

pub bounds-ops-order : goal.bounds-ops-order
bounds-ops-order c =
    let d : OpId = record { 0 = 0 } in
    let same = ap (λ (order : List OpId). get_or order c.args.place d) c.order_of-order.ensures in
    subst (λ (ops : List Op). (get_or c.order_of-order.result.now c.args.place d).0 < length ops) (sym c.ops_of-ops.ensures.ops)
    (op_there c.args.plan.now c.ops_of-ops.ensures.accepted c.args.place (get_or c.order_of-order.result.now c.args.place d) d c.requires same)

pub returns-clause-op : goal.returns-clause-op
returns-clause-op c =
    let d : OpId = record { 0 = 0 } in
    let same = ap (λ (order : List OpId). get_or order c.args.place d) c.order_of-order.ensures in
    stands_there c.args.plan.now c.ops_of-ops.ensures.accepted c.args.place (get_or c.order_of-order.result.now c.args.place d) d c.requires same c.index-ops-order.result c.index-ops-order.result
    (c.index-ops-order.is ∙ ap (λ (ops : List Op). get_or ops (get_or c.order_of-order.result.now c.args.place d).0 c.index-ops-order.result) c.ops_of-ops.ensures.ops)

pub returns-clause-shape : goal.returns-clause-shape
returns-clause-shape c =
    let stands = returns-clause-op c in
    shaped c.args.plan.now c.ops_of-ops.ensures.accepted stands.number.0 c.index-ops-order.result stands.is
