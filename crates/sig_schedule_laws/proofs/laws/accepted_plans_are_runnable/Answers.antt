use Rattle.sig_schedule_laws.proofs.{is_runnable}
use Rattle.sig_schedule_laws.proofs.laws.accepted_plans_are_runnable.Goals as goal

pub returns : goal.returns
returns c = is_runnable
