use Rattle.sig_file.proofs.{err_from_is_err_and, [], ◌∷◌, ◌++◌, sym, subst, List, goes_on, is_done, stops_too, node_at, IsNodeSet, ImageNode}
use Rattle.sig_file.proofs.parts.nodes_at.Goals as goal

pub returns-in_err-node : goal.returns-in_err-node
returns-in_err-node c =
    let p = err_from_is_err_and c.from_residual.result c.from_residual.ensures.1 in
    rw (p.1, p.2) (stops_too (node_at c.args.conditions) c.in_err-node.field-0.0 c.args.count c.loop.counter c.loop.nodes.items c.as_slice.result.now c.loop.rest.now _ c.as_slice.ensures.value c.loop-test.true c.in_err-node.ensures.node c.loop.invariant.rest)

pub node_at-requires : goal.node_at-requires
node_at-requires c = subst (λ (ns : List ImageNode). IsNodeSet ns c.loop.known.set) (sym c.as_slice.ensures.value) c.loop.invariant.known

pub loop-preserved : goal.loop-preserved
loop-preserved c =
    let e = c.in_ok-push.ensures.items in
    record {
      known = rw e (subst (λ (ns : List ImageNode). IsNodeSet (ns ++ c.in_ok-node.node ∷ []) c.node_at.new.known.set) c.as_slice.ensures.value c.in_ok-node.ensures.known);
      rest = rw e (goes_on (node_at c.args.conditions) c.args.count c.loop.counter c.loop.nodes.items c.as_slice.result.now c.loop.rest.now c.in_ok-node.node c.in_ok-node.after.now _ c.as_slice.ensures.value c.loop-test.true c.in_ok-node.ensures.node c.loop.invariant.rest);
    }

pub returns : goal.returns
returns c = is_done (node_at c.args.conditions) c.args.count c.loop.counter c.loop.nodes.items c.loop.rest.now _ c.loop-test.false c.loop.invariant.rest
