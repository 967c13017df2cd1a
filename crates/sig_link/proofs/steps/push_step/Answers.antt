use Rattle.sig_link.proofs.RuleKept.{pushes, full}
use Rattle.sig_link.proofs.steps.push_step.Goals as goal

pub push_as-requires-clause-rule : goal.push_as-requires-clause-rule
push_as-requires-clause-rule g c = (pushes _ _ _ _ c.requires.end, full _ _ c.requires.end)
