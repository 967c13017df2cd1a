use Rattle.sig_clock.proofs.{const_joined}
use Rattle.sig_clock.proofs.classes.relate_one.Goals as goal

pub returns-in-Const : goal.returns-in-Const
returns-in-Const c = const_joined c.args.least.now c.args.y.0 c.args.operand.now _ c.in-Const.is
