use Rattle.sig_schedule_laws.proofs.{after_on}
use Rattle.sig_schedule_laws.proofs.laws.interleavings_stay_on_the_reference.Goals as goal

pub returns : goal.returns
returns c = after_on
