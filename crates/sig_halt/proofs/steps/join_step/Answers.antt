use Rattle.std.proofs.Common.{arith}
use Rattle.sig_halt.proofs.RuleKept.{joins}
use Rattle.sig_halt.proofs.steps.join_step.Goals as goal

pub join_seat-requires : goal.join_seat-requires
join_seat-requires c =
    (c.requires.word, c.requires.other.0, c.requires.other.1, omega (arith, c.args.halt.now.one_word), joins _ _ _ _ _ c.requires.parts)
