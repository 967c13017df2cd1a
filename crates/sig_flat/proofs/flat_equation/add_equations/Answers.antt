use Rattle.sig_flat.proofs.{arith, common_steps, equation_left}
use Rattle.sig_flat.proofs.flat_equation.add_equations.Goals as goal

pub returns-in_err-add_equation-clause-refused : goal.returns-in_err-add_equation-clause-refused
returns-in_err-add_equation-clause-refused c = grind (
  arith,
  common_steps,
  equation_left c.args.equations.now c.loop-equation.equation-index c.equation-item.result c.loop-equation.draft c.args.draft.now c.loop-equation-test.true c.equation-item.is c.loop-equation.invariant,
)
