use Rattle.sig_graph.proofs.{◌≡◌, ◌<◌, ◌∙◌, ◌↔◌, Contains, ℕ, List, [], ap, sym, subst, arith, length, map, All, get_or, Some, slice_get, filter_map, get_or_read, length-map, length_push, All-map, ClocksView, Holds, IsSupport, Ref, SigId, operation_in, Needs, Op, graph_more, needs_are, get_map, read_is, slice_get_within}
use Rattle.sig_graph.proofs.graph.graph_of.Goals as goal

pub supports-requires : goal.supports-requires
supports-requires c =
    let guards = c.as_slice.ensures.value ∙ c.in_ok-guards.ensures in
    subst (λ (refs : List Ref). All (Holds c.args.store.now.nodes) refs) (sym guards) (All-map (Holds c.args.store.now.nodes) (λ (op : Op). op.guard) c.args.ops.now c.requires)

pub index-requires : goal.index-requires
index-requires c =
    let guards = ap length (c.as_slice.ensures.value ∙ c.in_ok-guards.ensures) ∙ length-map c.args.ops.now (λ (op : Op). op.guard) in
    let count = c.in_ok-supports.ensures.value.count in
    let lt = c.loop-number-test.true in
    omega (arith, guards, count, lt)

pub loop-number-preserved : goal.loop-number-preserved
loop-number-preserved c =
    let inv = c.loop-number.invariant in
    let conditions = c.args.clocks.now.conditions in
    let nodes = c.args.store.now.nodes in
    let ops = c.args.ops.now in
    let n = c.loop-number.number in
    let q = c.index-ops-number.result in
    let variables = c.index.result.now in
    let needs = c.in_ok-needs.needs.items in
    let guards = c.as_slice.ensures.value ∙ c.in_ok-guards.ensures in
    let size = ap length guards ∙ length-map ops (λ (op : Op). op.guard) in
    let count = c.in_ok-supports.ensures.value.count in
    let get = read_is ops n q c.loop-number-test.true c.index-ops-number.is in
    let lt = c.loop-number-test.true in
    let read = get_or_read c.in_ok-supports.supports.items n variables (omega (arith, size, count, lt)) c.index.ensures [] in
    let support = subst (IsSupport nodes q.guard) (sym read) (c.in_ok-supports.ensures.value.each n q.guard (ap (λ (refs : List Ref). slice_get refs n) guards ∙ get_map (λ (o : Op). o.guard) ops n q get)) in
    let listed = c.in_ok-needs.ensures ∙ (λ j. filter_map (slice_get ((c.as_slice-in-loop-number.ensures.value ∙ ap (λ (v : ClocksView). v.conditions) c.clocks.view_is) j)) (c.as_slice-variables.ensures j)) in
    let exact = needs_are nodes conditions q variables needs support.exact listed in
    let own = subst (λ (list : List SigId). (x : SigId) → Contains list x ↔ Needs conditions (operation_in nodes q) x) (sym c.as_slice-in-loop-number-2.ensures.value) exact in
    record {
      count = ap length c.in_ok-push.ensures.items ∙ length_push c.loop-number.graph.items c.in_ok-predecessors_of.field-0 ∙ (let n = inv.count in omega (arith, n));
      each = graph_more conditions nodes ops c.loop-number.graph.items c.push.new.self.items n q c.in_ok-predecessors_of.field-0 inv.count inv.each c.loop-number-test.true
          c.index-ops-number.is (c.in_ok-predecessors_of.ensures conditions own) c.in_ok-push.ensures.items;
    }

pub returns : goal.returns
returns c =
    let inv = c.loop-number.invariant in
    let n = inv.count in
    let last = c.loop-number-test.false in
    let most = c.loop-number.auto.number-end in
    record {
      count = omega (arith, n, last, most);
      each = λ j q is. inv.each j q (omega (arith, slice_get_within c.args.ops.now j q is, last)) is;
    }
