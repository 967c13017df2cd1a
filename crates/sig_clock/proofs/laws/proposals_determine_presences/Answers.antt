use Rattle.sig_clock.proofs.{one_presence, some_reaction}
use Rattle.sig_clock.proofs.laws.proposals_determine_presences.Goals as goal

pub returns-clause-some : goal.returns-clause-some
returns-clause-some c = some_reaction

pub returns-clause-one : goal.returns-clause-one
returns-clause-one c = one_presence
