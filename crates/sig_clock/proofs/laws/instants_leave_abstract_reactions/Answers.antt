use Rattle.sig_clock.proofs.{abstract_instant}
use Rattle.sig_clock.proofs.laws.instants_leave_abstract_reactions.Goals as goal

pub returns : goal.returns
returns c = abstract_instant
