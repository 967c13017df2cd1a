use Rattle.sig_call.proofs.{expression_of, IsSmall, all_mapped}
use Rattle.sig_call.proofs.expression.flat_expressions.Goals as goal

pub flat_expression-requires : goal.flat_expression-requires
flat_expression-requires c = all_mapped IsSmall expression_of c.args.all.now c.loop-e.e-index c.e-item.result c.requires c.loop-e-test.true c.e-item.is
