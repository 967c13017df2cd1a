use Rattle.sig_c_step.proofs.MayBeWritten.{may_be_written}
use Rattle.sig_c_step.proofs.laws.steps_may_be_written.Goals as goal

pub returns : goal.returns
returns c = may_be_written
