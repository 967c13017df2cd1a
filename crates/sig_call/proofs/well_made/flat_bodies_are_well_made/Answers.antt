use Rattle.sig_call.proofs.WellMadeBodies.{well_made}
use Rattle.sig_call.proofs.well_made.flat_bodies_are_well_made.Goals as goal

pub returns : goal.returns
returns c = well_made
