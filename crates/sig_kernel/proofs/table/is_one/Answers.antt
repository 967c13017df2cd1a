use Rattle.sig_kernel.proofs.{sym, arith, more_than_one}
use Rattle.sig_kernel.proofs.table.is_one.Goals as goal

pub returns-in_default-2 : goal.returns-in_default-2
returns-in_default-2 c = sym (more_than_one c.args.signals.now c.args.operands.now c.args.sort (omega arith))
