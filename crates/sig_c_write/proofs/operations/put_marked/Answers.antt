use Rattle.sig_c.specs.Layout.{lines_text}
use Rattle.sig_c_step.specs.Translation.{computing, joined, marking}
use Rattle.sig_c_write.specs.Given.{scope_in}
use Rattle.sig_c_write.proofs.Chains.{two}
use Rattle.sig_c_write.proofs.JoinedLines.{lines_joined}
use Rattle.sig_c_write.proofs.operations.put_marked.Goals as goal

pub returns : goal.returns
returns c =
    let first = computing c.args.y.0 c.args.code c.args.op c.args.operands.now in
    let last = marking c.args.image.now c.args.y.0 in
    two _ _ _ _ _ (lines_text c.args.margin.now (scope_in c.args.names.now) (joined first last)) c.in_ok-put_function_of.ensures c.in_ok-put_marking.ensures
    (lines_joined c.args.margin.now (scope_in c.args.names.now) first last)
