use Rattle.sig_call.proofs.{expression_of, IsSmall, all_mapped}
use Rattle.sig_call.proofs.expansion.Expansion.define_inputs.Goals as goal

pub flat_expression-requires : goal.flat_expression-requires
flat_expression-requires c = all_mapped IsSmall expression_of c.args.arguments.now c.loop-argument.argument-index c.argument-item.result c.requires.small c.loop-argument-test.true c.argument-item.is
