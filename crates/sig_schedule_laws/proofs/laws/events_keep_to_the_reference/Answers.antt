use Rattle.sig_schedule_laws.proofs.{stepped_on}
use Rattle.sig_schedule_laws.proofs.laws.events_keep_to_the_reference.Goals as goal

pub returns : goal.returns
returns c = stepped_on
