use Rattle.std.proofs.Common.{append_assoc}
use Rattle.sig_c.specs.SmallC.{none}
use Rattle.sig_c.specs.Layout.{lines_text}
use Rattle.sig_c_step.specs.Translation.{divisor_tested}
use Rattle.sig_c_write.specs.Given.{scope_in}
use Rattle.sig_c_write.proofs.Chains.{three}
use Rattle.sig_c_write.proofs.functions.put_divisor_test.Goals as goal

pub returns : goal.returns
returns c =
    three _ _ _ _ _ _ _ (lines_text c.args.margin.now (scope_in c.args.names.now) (divisor_tested c.args.b c.args.code none))
    c.in_ok-put_if.ensures c.in_ok-put_zero_test.ensures c.in_ok-put_answer.ensures (simp append_assoc)
