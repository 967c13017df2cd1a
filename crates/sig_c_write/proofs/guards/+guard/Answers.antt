use Rattle.std.proofs.Common.{[], Err, ap, arith}
use Rattle.sig_c_step.specs.Translation.{guard_of}
use Rattle.sig_c_write.specs.Given.{scope_in}
use Rattle.sig_c_write.specs.declared.limits.TheConstants.{TEXT_BYTES}
use Rattle.sig_c_write.specs.inner.GuardBytes.{guard_bytes}
use Rattle.sig_c_write.proofs.Chains.{five, long_amid, long_before, passed_on}
use Rattle.sig_c_write.proofs.GuardParts.{guard_pieces}
use Rattle.sig_c_write.proofs.guards.+guard.Goals as goal

pub put_guard-returns-in_err-has_room-clause-long : goal.put_guard-returns-in_err-has_room-clause-long
put_guard-returns-in_err-has_room-clause-long t c = λ is.
    let scope = scope_in c.args.names.now in
    let whole = guard_pieces c.args.image.now scope c.args.inner c.args.guard c.node_at-node.result c.child_of-low.result c.child_of-high.result c.node_at-node.ensures.right c.requires.node c.node_at-node.ensures.is
    c.child_of-low.ensures c.child_of-high.ensures in
    let l = c.in_err-has_room.ensures.long (ap Err (passed_on c.from_residual-in_err-has_room.result c.in_err-has_room.field-0.0 c.from_residual-in_err-has_room.ensures.1 is)) in
    long_before TEXT_BYTES c.args.text.now.items c.put_beginning.new.text.items _ [] _ (guard_bytes scope c.args.inner (guard_of c.args.image.now c.args.guard)) c.in_ok-put_beginning.ensures whole (omega (arith, l))

pub put_guard-returns-in_err-put_child-clause-long : goal.put_guard-returns-in_err-put_child-clause-long
put_guard-returns-in_err-put_child-clause-long t c = λ is.
    let scope = scope_in c.args.names.now in
    let whole = guard_pieces c.args.image.now scope c.args.inner c.args.guard c.node_at-node.result c.child_of-low.result c.child_of-high.result c.node_at-node.ensures.right c.requires.node c.node_at-node.ensures.is
    c.child_of-low.ensures c.child_of-high.ensures in
    let l = c.in_err-put_child.ensures.long (ap Err (passed_on c.from_residual-in_err-put_child.result c.in_err-put_child.field-0.0 c.from_residual-in_err-put_child.ensures.1 is)) in
    long_before TEXT_BYTES c.args.text.now.items c.put_beginning.new.text.items _ _ _ (guard_bytes scope c.args.inner (guard_of c.args.image.now c.args.guard)) c.in_ok-put_beginning.ensures whole l

pub put_guard-returns-in_err-put_child-2-clause-long : goal.put_guard-returns-in_err-put_child-2-clause-long
put_guard-returns-in_err-put_child-2-clause-long t c = λ is.
    let scope = scope_in c.args.names.now in
    let whole = guard_pieces c.args.image.now scope c.args.inner c.args.guard c.node_at-node.result c.child_of-low.result c.child_of-high.result c.node_at-node.ensures.right c.requires.node c.node_at-node.ensures.is
    c.child_of-low.ensures c.child_of-high.ensures in
    let l = c.in_err-put_child-2.ensures.long (ap Err (passed_on c.from_residual-in_err-put_child-2.result c.in_err-put_child-2.field-0.0 c.from_residual-in_err-put_child-2.ensures.1 is)) in
    long_amid TEXT_BYTES c.args.text.now.items _ _ _ _ _ _ _ _ (guard_bytes scope c.args.inner (guard_of c.args.image.now c.args.guard)) c.in_ok-put_beginning.ensures c.in_ok-put_child.ensures.text c.in_ok-put_between.ensures whole l

pub put_guard-returns-clause-text : goal.put_guard-returns-clause-text
put_guard-returns-clause-text t c =
    let scope = scope_in c.args.names.now in
    let whole = guard_pieces c.args.image.now scope c.args.inner c.args.guard c.node_at-node.result c.child_of-low.result c.child_of-high.result c.node_at-node.ensures.right c.requires.node c.node_at-node.ensures.is
    c.child_of-low.ensures c.child_of-high.ensures in
    five _ _ _ _ _ _ _ _ _ _ _ (guard_bytes scope c.args.inner (guard_of c.args.image.now c.args.guard)) c.in_ok-put_beginning.ensures c.in_ok-put_child.ensures.text c.in_ok-put_between.ensures c.in_ok-put_child-2.ensures.text c.in_ok-put_bracket.ensures whole
