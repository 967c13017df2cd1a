use Rattle.sig_kernel.proofs.{sym, arith, less_than_two, more_than_two}
use Rattle.sig_kernel.proofs.table.are_two.Goals as goal

pub returns-in_default : goal.returns-in_default
returns-in_default c = sym (less_than_two c.args.signals.now c.args.operands.now c.args.first c.args.second (omega arith))

pub returns-in_default-2 : goal.returns-in_default-2
returns-in_default-2 c = sym (more_than_two c.args.signals.now c.args.operands.now c.args.first c.args.second (omega arith))
