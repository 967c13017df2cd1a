use Rattle.sig_system_laws.proofs.{comes_to_an_end, few_instants, final_or_event}
use Rattle.sig_system_laws.proofs.laws.systems_come_to_a_final_state.Goals as goal

pub returns : goal.returns
returns c = record { next = final_or_event; within = few_instants; last = comes_to_an_end }
