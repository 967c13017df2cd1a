use Rattle.sig_file.proofs.{◌≡◌, Err, ap, arith, rules, high_below, high_held, low_below, low_held, eq-value, TooLong, ROOM_FOR_NODES, high_long, low_long, node_again, node_long, node_visited, numbers_with}
use Rattle.sig_file.proofs.numbering.Numbering.+number.Goals as goal

pub number-requires : goal.number-requires
number-requires t c =
    let nodes = c.args.store.now.nodes in
    let reduced = c.node.ensures.store.reduced in
    let below = low_below nodes reduced c.args.r c.requires.held c.in-Some.node c.in-Some.ensures.node in
    (omega arith, (low_held nodes reduced c.args.r c.requires.held c.in-Some.node c.in-Some.ensures.node, c.requires.numbered))

pub number-requires-2 : goal.number-requires-2
number-requires-2 t c =
    let nodes = c.args.store.now.nodes in
    let reduced = c.node.ensures.store.reduced in
    let below = high_below nodes reduced c.args.r c.requires.held c.in-Some.node c.in-Some.ensures.node in
    (omega arith, (high_held nodes reduced c.args.r c.requires.held c.in-Some.node c.in-Some.ensures.node, c.in_ok-low.ensures.numbered))

pub returns-in_err-low-clause-long : goal.returns-in_err-low-clause-long
returns-in_err-low-clause-long t c limit e =
    let refused : c.in_err-low.field-0.0 ≡ TooLong limit = search rules in
    low_long c.args.store.now c.node.ensures.store c.args.r c.requires.held c.in-Some.node c.in-Some.ensures.node c.args.self.now.nodes.keys ROOM_FOR_NODES
    (c.in_err-low.ensures.long limit (ap Err refused))

pub returns-in_err-high-clause-long : goal.returns-in_err-high-clause-long
returns-in_err-high-clause-long t c limit e =
    let refused : c.in_err-high.field-0.0 ≡ TooLong limit = search rules in
    high_long c.args.store.now c.node.ensures.store c.args.r c.requires.held c.in-Some.node c.in-Some.ensures.node c.args.self.now.nodes.keys
    c.number.new.self.nodes.keys c.in_ok-low.low c.in_ok-low.ensures.visited ROOM_FOR_NODES (c.in_err-high.ensures.long limit (ap Err refused))

pub returns-in_err-number-clause-long : goal.returns-in_err-number-clause-long
returns-in_err-number-clause-long t c limit e =
    let refused : c.in_err-number.field-0.0 ≡ TooLong limit = search rules in
    node_long c.args.store.now c.node.ensures.store c.args.r c.requires.held c.in-Some.node c.in-Some.ensures.node c.args.self.now.nodes.keys
    c.number.new.self.nodes.keys c.in_ok-low.low c.in_ok-low.ensures.visited c.number-2.new.self.nodes.keys c.in_ok-high.high c.in_ok-high.ensures.visited
    ROOM_FOR_NODES (c.in_err-number.ensures.long limit (ap Err refused))

pub returns-clause-numbered : goal.returns-clause-numbered
returns-clause-numbered t c =
    let again = node_again c.args.store.now c.node.ensures.store c.args.r c.requires.held c.in-Some.node c.in-Some.ensures.node c.args.self.now.nodes.keys
    c.number.new.self.nodes.keys c.in_ok-low.low c.in_ok-low.ensures.visited c.number-2.new.self.nodes.keys c.in_ok-high.high c.in_ok-high.ensures.visited
    c.add_node.new.nodes.keys c.in_ok-number.number c.in_ok-number.ensures.nodes c.in_ok-number.ensures.number in
    let stay = numbers_with c.args.store.now c.node.ensures.store c.args.r c.requires.held c.in-Some.node c.in-Some.ensures.node c.args.self.now.nodes.keys
    c.number.new.self.nodes.keys c.in_ok-low.low c.in_ok-low.ensures.visited c.number-2.new.self.nodes.keys c.in_ok-high.high c.in_ok-high.ensures.visited
    c.add_node.new.nodes.keys c.in_ok-number.number c.in_ok-number.ensures.nodes c.in_ok-number.ensures.number eq-value.it c.number-2.new.self.numbers c.in_ok-high.ensures.numbered in
    c.in_ok-keep.ensures c.args.store.now.nodes c.add_node.new.nodes.keys again stay

pub returns-clause-visited : goal.returns-clause-visited
returns-clause-visited t c =
    node_visited c.args.store.now c.node.ensures.store c.args.r c.requires.held c.in-Some.node c.in-Some.ensures.node c.args.self.now.nodes.keys
    c.number.new.self.nodes.keys c.in_ok-low.low c.in_ok-low.ensures.visited c.number-2.new.self.nodes.keys c.in_ok-high.high c.in_ok-high.ensures.visited
    c.add_node.new.nodes.keys c.in_ok-number.number c.in_ok-number.ensures.nodes c.in_ok-number.ensures.number
