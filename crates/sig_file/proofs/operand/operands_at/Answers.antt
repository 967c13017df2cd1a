use Rattle.sig_file.proofs.{err_from_is_err_and, refl, ◌<◌, ◌≤◌, added_ok, added_stops, goes_on, is_done, stops_too, operand_at, operand_count}
use Rattle.sig_file.proofs.operand.operands_at.Goals as goal

pub returns-in_err-rest : goal.returns-in_err-rest
returns-in_err-rest c =
    let p = err_from_is_err_and c.from_residual.result c.from_residual.ensures.1 in
    let lt : c.loop.counter < operand_count c.args.op = rw (← c.operand_count-end.ensures) c.loop-test.true in
    rw (p.1, p.2) (stops_too (operand_at c.args.signals.now c.args.op c.args.kind) c.in_err-rest.field-0.0 (operand_count c.args.op) c.loop.counter c.loop.operands.items c.loop.operands.items c.loop.rest.now _ refl lt
    (added_stops c.in_err-rest.field-0.0 c.loop.operands.items _ c.in_err-rest.ensures) c.loop.invariant)

pub loop-preserved : goal.loop-preserved
loop-preserved c =
    let lt : c.loop.counter < operand_count c.args.op = rw (← c.operand_count-end.ensures) c.loop-test.true in
    let a = added_ok c.loop.operands.items (operand_at c.args.signals.now c.args.op c.args.kind c.loop.operands.items c.loop.rest.now) c.add_operand.new.operands.items c.in_ok-rest.rest.now c.in_ok-rest.ensures in
    rw a.2 (goes_on (operand_at c.args.signals.now c.args.op c.args.kind) (operand_count c.args.op) c.loop.counter c.loop.operands.items c.loop.operands.items c.loop.rest.now a.0 c.in_ok-rest.rest.now _ refl lt a.1 c.loop.invariant)

pub returns : goal.returns
returns c =
    let le : operand_count c.args.op ≤ c.loop.counter = rw (← c.operand_count-end.ensures) c.loop-test.false in
    is_done (operand_at c.args.signals.now c.args.op c.args.kind) (operand_count c.args.op) c.loop.counter c.loop.operands.items c.loop.rest.now _ le c.loop.invariant
