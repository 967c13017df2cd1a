use Rattle.std.proofs.Common.{rules}
use Rattle.sig_link.proofs.RuleKept.{begins, forks}
use Rattle.sig_link.proofs.opening.link.Goals as goal

pub ruled-requires-clause-rule : goal.ruled-requires-clause-rule
ruled-requires-clause-rule g c = begins

pub another-taker-requires-clause-rule : goal.another-taker-requires-clause-rule
another-taker-requires-clause-rule g c = forks _ _ (search rules) (search rules)
