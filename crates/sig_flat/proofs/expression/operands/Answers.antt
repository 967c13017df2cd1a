use Rattle.sig_flat.proofs.{arith, common_steps, operand_left}
use Rattle.sig_flat.proofs.expression.operands.Goals as goal

pub returns-in_err-x-clause-refused : goal.returns-in_err-x-clause-refused
returns-in_err-x-clause-refused c = grind (
  arith,
  common_steps,
  operand_left c.args.site.now c.args.expressions.now c.loop-e.e-index c.e-item.result c.loop-e.signals.items c.loop-e.draft c.args.draft.now c.loop-e-test.true c.e-item.is c.loop-e.invariant,
)
