use Rattle.sig_link.proofs.RuleKept.{pops, empty}
use Rattle.sig_link.proofs.steps.pop_step.Goals as goal

pub pop_as-requires-clause-rule : goal.pop_as-requires-clause-rule
pop_as-requires-clause-rule g c = (pops _ _ c.requires.end, empty _ _ c.requires.end)
