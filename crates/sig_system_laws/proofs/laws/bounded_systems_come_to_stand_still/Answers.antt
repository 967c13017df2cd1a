use Rattle.sig_system_laws.proofs.{comes_to_stand_still}
use Rattle.sig_system_laws.proofs.laws.bounded_systems_come_to_stand_still.Goals as goal

pub returns : goal.returns
returns c = comes_to_stand_still
