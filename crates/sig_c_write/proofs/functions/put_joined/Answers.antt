use Rattle.std.proofs.Common.{append_assoc}
use Rattle.sig_c_write.specs.Given.{scope_in}
use Rattle.sig_c_write.specs.inner.Lines.{joined_bytes, set_line}
use Rattle.sig_c_write.proofs.Chains.{five}
use Rattle.sig_c_write.proofs.functions.put_joined.Goals as goal

pub returns : goal.returns
returns c =
    five _ _ _ _ _ _ _ _ _ _ _ (set_line c.args.margin.now (scope_in c.args.names.now) c.args.target (joined_bytes (scope_in c.args.names.now) c.args.mark.now c.args.a c.args.b))
    c.in_ok-put_line_beginning.ensures c.in_ok-put_operand.ensures.within c.in_ok-put_operator.ensures c.in_ok-put_operand-2.ensures.within c.in_ok-extend_from_slice.ensures.items
    (simp append_assoc)
