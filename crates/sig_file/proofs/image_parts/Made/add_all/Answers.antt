use Rattle.sig_file.proofs.{◌≡◌, ◌+◌, Err, ap, drop, rules, made_behind, TooLong, ROOM_FOR_NODES, long_behind}
use Rattle.sig_file.proofs.image_parts.Made.add_all.Goals as goal

pub returns-in_err-add_numbered-clause-long : goal.returns-in_err-add_numbered-clause-long
returns-in_err-add_numbered-clause-long c limit e =
    let refused : c.in_err-add_numbered.field-0.0 ≡ TooLong limit = search rules in
    long_behind c.args.plan.now c.args.order.now c.loop-id.id-index (record { 0 = 0 }) c.loop-id.self.numbering.nodes.keys c.loop-id.self.ops.items ROOM_FOR_NODES
    (made_behind c.args.plan.now c.args.order.now c.args.self.now.numbering.nodes.keys c.args.self.now.ops.items) c.loop-id-test.true c.loop-id.invariant.made
    (c.in_err-add_numbered.ensures.long (drop (c.loop-id.id-index + 1) c.args.order.now) limit (ap Err refused))
