use Rattle.sig_plan.proofs.{operations_written}
use Rattle.sig_plan.proofs.laws_accepted.signals_are_written_in_their_clusters.Goals as goal

pub returns : goal.returns
returns c = λ kernel conditions operations valid has. operations_written kernel has.presence operations valid has.are
