use Rattle.std.proofs.Common.{arith}
use Rattle.sig_halt.proofs.RuleKept.{fails}
use Rattle.sig_halt.proofs.steps.lower_step.Goals as goal

pub fetch_min-requires : goal.fetch_min-requires
fetch_min-requires c = (c.requires.word, omega (arith, c.args.halt.now.one_word), fails _ _ _ _ _ c.requires.parts)
