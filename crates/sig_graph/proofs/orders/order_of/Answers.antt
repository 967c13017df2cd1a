use Rattle.sig_graph.proofs.{◌≡◌, ◌∙◌, sym, subst, length, arith, rules, ℕ, List, vec_len, length-map, OpId, IsGraph, IsTakenOut, IsLeastOnCycle, operations_in, numbers_of, acyclic, cycle_is, graph_within, no_cycle, order_is, ordered_no_cycle, taken_ordered, taking_ends}
use Rattle.sig_graph.proofs.orders.order_of.Goals as goal

pub take_all-requires-clause-within : goal.take_all-requires-clause-within
take_all-requires-clause-within c =
    let is = subst (IsGraph c.args.clocks.now.conditions c.args.store.now.nodes c.args.ops.now) (sym c.as_slice.ensures.value) c.in_ok-graph.ensures in
    graph_within c.args.clocks.now.conditions c.args.store.now.nodes c.args.ops.now c.as_slice.result.now is

pub returns-then-len-ops-clause-order : goal.returns-then-len-ops-clause-order
returns-then-len-ops-clause-order c =
    let is = subst (IsGraph c.args.clocks.now.conditions c.args.store.now.nodes c.args.ops.now) (sym c.as_slice.ensures.value) c.in_ok-graph.ensures in
    let count = length-map c.in_ok-order.order.items (λ (op : OpId). op.0) in
    let whole : vec_len c.in_ok-order.order ≡ length c.in_ok-order.order.items = search rules in
    let len = c.len.ensures in
    let full = c.if-len-ops.true in
    let same = is.count in
    order_is c.args.clocks.now.conditions c.args.store.now.nodes c.args.ops.now c.as_slice.result.now is (numbers_of c.in_ok-order.order.items)
    (taken_ordered c.as_slice.result.now (numbers_of c.in_ok-order.order.items) c.in_ok-order.ensures (omega (arith, count, whole, len, full, same)))

pub returns-then-len-ops-clause-no_cycle : goal.returns-then-len-ops-clause-no_cycle
returns-then-len-ops-clause-no_cycle c =
    ordered_no_cycle c.args.clocks.now.conditions (operations_in c.args.store.now.nodes c.args.ops.now) (numbers_of c.in_ok-order.order.items) (returns-then-len-ops-clause-order c)

pub least_on_cycle-requires-clause-within : goal.least_on_cycle-requires-clause-within
least_on_cycle-requires-clause-within c =
    let is = subst (IsGraph c.args.clocks.now.conditions c.args.store.now.nodes c.args.ops.now) (sym c.as_slice-2.ensures.value) c.in_ok-graph.ensures in
    graph_within c.args.clocks.now.conditions c.args.store.now.nodes c.args.ops.now c.as_slice-2.result.now is

pub returns-in-Some-clause-cycle : goal.returns-in-Some-clause-cycle
returns-in-Some-clause-cycle c =
    let is = subst (IsGraph c.args.clocks.now.conditions c.args.store.now.nodes c.args.ops.now) (sym c.as_slice-2.ensures.value) c.in_ok-graph.ensures in
    cycle_is c.args.clocks.now.conditions c.args.store.now.nodes c.args.ops.now c.as_slice-2.result.now is c.in-Some.x
    (subst (IsLeastOnCycle c.as_slice-2.result.now c.args.ops.now (length c.args.ops.now)) c.in-Some.is c.in_ok-x.ensures)

pub returns-clause-order : goal.returns-clause-order
returns-clause-order c =
    let is = subst (IsGraph c.args.clocks.now.conditions c.args.store.now.nodes c.args.ops.now) (sym c.as_slice-2.ensures.value) c.in_ok-graph.ensures in
    let order = numbers_of c.in_ok-order.order.items in
    let out : IsTakenOut c.as_slice-2.result.now (numbers_of c.in_ok-order.order.items) =
    subst (λ (graph : List (List ℕ)). IsTakenOut graph (numbers_of c.in_ok-order.order.items)) (c.as_slice.ensures.value ∙ sym c.as_slice-2.ensures.value) c.in_ok-order.ensures in
    let free = acyclic c.args.clocks.now.conditions c.args.store.now.nodes c.args.ops.now c.as_slice-2.result.now is
    (subst (IsLeastOnCycle c.as_slice-2.result.now c.args.ops.now (length c.args.ops.now)) c.in-None.is c.in_ok-x.ensures) in
    order_is c.args.clocks.now.conditions c.args.store.now.nodes c.args.ops.now c.as_slice-2.result.now is order
    (taking_ends c.as_slice-2.result.now out.marks order (graph_within c.args.clocks.now.conditions c.args.store.now.nodes c.args.ops.now c.as_slice-2.result.now is) free out.taken out.none)

pub returns-clause-no_cycle : goal.returns-clause-no_cycle
returns-clause-no_cycle c =
    let is = subst (IsGraph c.args.clocks.now.conditions c.args.store.now.nodes c.args.ops.now) (sym c.as_slice-2.ensures.value) c.in_ok-graph.ensures in
    no_cycle c.args.clocks.now.conditions c.args.store.now.nodes c.args.ops.now c.as_slice-2.result.now is
    (subst (IsLeastOnCycle c.as_slice-2.result.now c.args.ops.now (length c.args.ops.now)) c.in-None.is c.in_ok-x.ensures)
