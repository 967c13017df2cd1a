use Rattle.sig_schedule_laws.proofs.{after_has_end, finished_has_end}
use Rattle.sig_schedule_laws.proofs.laws_ends.finished_states_have_the_end.Goals as goal

pub returns-clause-state : goal.returns-clause-state
returns-clause-state c = finished_has_end

pub returns-clause-interleaving : goal.returns-clause-interleaving
returns-clause-interleaving c = after_has_end
