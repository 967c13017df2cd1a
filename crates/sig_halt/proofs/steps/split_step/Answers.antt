use Rattle.std.proofs.Common.{arith}
use Rattle.sig_halt.proofs.RuleKept.{splits}
use Rattle.sig_halt.proofs.steps.split_step.Goals as goal

pub split_seat-requires : goal.split_seat-requires
split_seat-requires c = (c.requires.word, omega (arith, c.args.halt.now.one_word), splits _ _ _ c.requires.parts)
