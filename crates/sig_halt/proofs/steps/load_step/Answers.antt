use Rattle.std.proofs.Common.{arith}
use Rattle.sig_halt.proofs.RuleKept.{looks}
use Rattle.sig_halt.proofs.steps.load_step.Goals as goal

pub load-requires : goal.load-requires
load-requires c = (c.requires, omega (arith, c.args.halt.now.one_word), looks _ _ _ _)
