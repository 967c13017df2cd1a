use Rattle.sig_hier.proofs.{once}
use Rattle.sig_hier.proofs.laws.each_class_has_one_line.Goals as goal

pub returns : goal.returns
returns c = once
