use Rattle.sig_system_laws.proofs.{fault_is_final}
use Rattle.sig_system_laws.proofs.laws.faults_are_final.Goals as goal

pub returns : goal.returns
returns c = fault_is_final
