use Rattle.sig_system_laws.proofs.{all_begin, one_final}
use Rattle.sig_system_laws.proofs.laws.final_states_are_one.Goals as goal

pub returns : goal.returns
returns c = record { all = all_begin; one = one_final }
