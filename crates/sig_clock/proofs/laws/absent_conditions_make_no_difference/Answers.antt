use Rattle.sig_clock.proofs.{absent_makes_none}
use Rattle.sig_clock.proofs.laws.absent_conditions_make_no_difference.Goals as goal

pub returns : goal.returns
returns c = absent_makes_none
