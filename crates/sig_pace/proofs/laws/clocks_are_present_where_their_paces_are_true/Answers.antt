use Rattle.sig_pace.proofs.{pace_says}
use Rattle.sig_pace.proofs.laws.clocks_are_present_where_their_paces_are_true.Goals as goal

pub returns : goal.returns
returns c = pace_says
