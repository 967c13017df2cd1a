use Rattle.sig_clock.proofs.{present_together}
use Rattle.sig_clock.proofs.laws.signals_of_one_clock_are_present_together.Goals as goal

pub returns : goal.returns
returns c = present_together
