use Rattle.sig_schedule_laws.proofs.{opening_on}
use Rattle.sig_schedule_laws.proofs.laws.the_opening_is_on_the_reference.Goals as goal

pub returns : goal.returns
returns c = opening_on
