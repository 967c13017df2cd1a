use Rattle.sig_settling_laws.proofs.{settled_finished}
use Rattle.sig_settling_laws.proofs.laws.settled_actors_are_finished.Goals as goal

pub returns : goal.returns
returns c = settled_finished
