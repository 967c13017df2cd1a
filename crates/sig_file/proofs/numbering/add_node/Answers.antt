use Rattle.sig_file.proofs.{◌+◌, ◌≡◌, ◌∙◌, sym, ap, arith, place_of_is, place_within, with_node_is, place_of}
use Rattle.sig_file.proofs.numbering.add_node.Goals as goal

pub returns-then-place-ge-ROOM_FOR_NODES-clause-long : goal.returns-then-place-ge-ROOM_FOR_NODES-clause-long
returns-then-place-ge-ROOM_FOR_NODES-clause-long c limit e =
    let node = c.args.node in
    let keys = c.args.nodes.now.keys in
    let within = place_within node.variable node.low node.high keys in
    let place : c.in_ok-place.place ≡ place_of node.variable node.low node.high keys = c.in_ok-place.ensures.index ∙ sym (place_of_is node.variable node.low node.high keys) in
    omega (arith, within, place)

pub returns-clause-nodes : goal.returns-clause-nodes
returns-clause-nodes c =
    let node = c.args.node in
    c.in_ok-place.ensures.keys ∙ sym (with_node_is node.variable node.low node.high c.args.nodes.now.keys)

pub returns-clause-number : goal.returns-clause-number
returns-clause-number c =
    let node = c.args.node in
    ap (λ n. n + 2) (c.in_ok-place.ensures.index ∙ sym (place_of_is node.variable node.low node.high c.args.nodes.now.keys))
