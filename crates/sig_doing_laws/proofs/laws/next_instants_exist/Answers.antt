use Rattle.sig_doing_laws.proofs.{next_instant}
use Rattle.sig_doing_laws.proofs.laws.next_instants_exist.Goals as goal

pub returns : goal.returns
returns c = next_instant
