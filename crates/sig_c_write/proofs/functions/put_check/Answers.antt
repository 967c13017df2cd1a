use Rattle.std.proofs.Common.{append_assoc}
use Rattle.sig_c_write.specs.Given.{scope_in}
use Rattle.sig_c_write.specs.inner.Lines.{check_line}
use Rattle.sig_c_write.proofs.Chains.{four}
use Rattle.sig_c_write.proofs.functions.put_check.Goals as goal

pub returns : goal.returns
returns c =
    four _ _ _ _ _ _ _ _ _ (check_line c.args.margin.now (scope_in c.args.names.now) c.args.helper.now c.args.a c.args.b c.args.target c.args.code)
    c.in_ok-put_call.ensures c.in_ok-put_arguments.ensures c.in_ok-put_address.ensures c.in_ok-put_refusal.ensures (simp append_assoc)
