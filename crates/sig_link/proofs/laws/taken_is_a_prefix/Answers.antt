use Rattle.sig_link.proofs.RuleKept.{prefix}
use Rattle.sig_link.proofs.laws.taken_is_a_prefix.Goals as goal

pub returns : goal.returns
returns g c = prefix
