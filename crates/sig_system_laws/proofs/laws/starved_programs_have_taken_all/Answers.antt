use Rattle.sig_system_laws.proofs.{starved}
use Rattle.sig_system_laws.proofs.laws.starved_programs_have_taken_all.Goals as goal

pub returns : goal.returns
returns c = starved
