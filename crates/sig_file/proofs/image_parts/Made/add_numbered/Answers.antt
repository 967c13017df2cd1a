use Rattle.sig_file.proofs.{PlanView, ◌≡◌, ◌∙◌, Some, None, ap, slice_get, ROOM_FOR_NODES, none_made, one_long, one_made, stands_at, stands_past, on_ok}
use Rattle.sig_file.proofs.image_parts.Made.add_numbered.Goals as goal

pub returns-in-Some-clause-made : goal.returns-in-Some-clause-made
returns-in-Some-clause-made c order =
    let lookup : slice_get c.args.plan.now.ops c.args.id.0 ≡ Some c.in-Some.op.now = stands_at c.deref.result.now c.args.plan.now.ops c.args.id.0 c.in-Some.op.now (c.deref.ensures.value ∙ ap (λ (p : PlanView). p.ops) c.plan.view_is) c.in-Some.ensures.lookup.3.0 c.in-Some.ensures.lookup.1 in
    on_ok c.add.result
    (λ nodes ops. one_made c.args.plan.now c.args.id order c.args.self.now.numbering.nodes.keys c.args.self.now.ops.items c.in-Some.op.now lookup c.add.new.self.numbering.nodes.keys c.add.new.self.ops.items nodes ops)
    c.add.ensures.nodes c.add.ensures.ops

pub returns-in-Some-clause-long : goal.returns-in-Some-clause-long
returns-in-Some-clause-long c order limit e =
    let lookup : slice_get c.args.plan.now.ops c.args.id.0 ≡ Some c.in-Some.op.now = stands_at c.deref.result.now c.args.plan.now.ops c.args.id.0 c.in-Some.op.now (c.deref.ensures.value ∙ ap (λ (p : PlanView). p.ops) c.plan.view_is) c.in-Some.ensures.lookup.3.0 c.in-Some.ensures.lookup.1 in
    one_long c.args.plan.now c.args.id order c.args.self.now.numbering.nodes.keys c.args.self.now.ops.items c.in-Some.op.now lookup ROOM_FOR_NODES (c.add.ensures.long limit e)

pub returns-in-None-clause-made : goal.returns-in-None-clause-made
returns-in-None-clause-made c order =
    let lookup : slice_get c.args.plan.now.ops c.args.id.0 ≡ None = stands_past c.deref.result.now c.args.plan.now.ops c.args.id.0 (c.deref.ensures.value ∙ ap (λ (p : PlanView). p.ops) c.plan.view_is) c.in-None.ensures.lookup.3 in
    none_made c.args.plan.now c.args.id order c.args.self.now.numbering.nodes.keys c.args.self.now.ops.items lookup
