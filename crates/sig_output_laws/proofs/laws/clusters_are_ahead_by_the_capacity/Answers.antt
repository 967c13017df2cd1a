use Rattle.sig_output_laws.proofs.{instants_ahead, put_ahead}
use Rattle.sig_output_laws.proofs.laws.clusters_are_ahead_by_the_capacity.Goals as goal

pub returns : goal.returns
returns c = record { instants = instants_ahead; outputs = put_ahead }
