use Rattle.std.proofs.Common.{Err, ap, codes}
use Rattle.sig_c.specs.Layout.{expression_text}
use Rattle.sig_c_step.specs.Translation.{guard_of}
use Rattle.sig_c_write.specs.Given.{scope_in}
use Rattle.sig_c_write.specs.declared.limits.TheConstants.{TEXT_BYTES}
use Rattle.sig_c_write.specs.inner.Blocks.{block_opening}
use Rattle.sig_c_write.proofs.BlockGuards.{opening_node}
use Rattle.sig_c_write.proofs.Chains.{three, long_before, passed_on}
use Rattle.sig_c_write.proofs.blocks.put_opening.Goals as goal

pub returns-in_err-put_guard-clause-long : goal.returns-in_err-put_guard-clause-long
returns-in_err-put_guard-clause-long c = λ is.
    let scope = scope_in c.args.names.now in
    let l = c.in_err-put_guard.ensures.long (ap Err (passed_on c.from_residual-in_err-put_guard.result c.in_err-put_guard.field-0.0 c.from_residual-in_err-put_guard.ensures.1 is)) in
    long_before TEXT_BYTES c.args.text.now.items c.extend_from_slice.new.self.items (codes "    if (") (expression_text scope (guard_of c.args.image.now c.args.guard)) (codes ") {\n")
    (block_opening c.args.image.now scope c.args.guard) c.in_ok-extend_from_slice.ensures.items (opening_node c.args.image.now scope c.args.guard c.requires.node) l

pub returns-clause-text : goal.returns-clause-text
returns-clause-text c =
    let scope = scope_in c.args.names.now in
    three c.args.text.now.items _ _ _ (codes "    if (") (expression_text scope (guard_of c.args.image.now c.args.guard)) (codes ") {\n") (block_opening c.args.image.now scope c.args.guard)
    c.in_ok-extend_from_slice.ensures.items c.in_ok-put_guard.ensures.text c.in_ok-extend_from_slice-2.ensures.items (opening_node c.args.image.now scope c.args.guard c.requires.node)
