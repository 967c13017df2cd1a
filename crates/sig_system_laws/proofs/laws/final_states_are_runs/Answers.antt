use Rattle.sig_system_laws.proofs.{links_fit, run_end}
use Rattle.sig_system_laws.proofs.laws.final_states_are_runs.Goals as goal

pub returns-clause-fit : goal.returns-clause-fit
returns-clause-fit c = links_fit

pub returns-clause-end : goal.returns-clause-end
returns-clause-end c = λ given accepted joined t reached final k kernel is. run_end given accepted t reached k kernel is final joined
