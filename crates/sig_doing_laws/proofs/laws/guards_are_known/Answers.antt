use Rattle.sig_doing_laws.proofs.{guard_known}
use Rattle.sig_doing_laws.proofs.laws.guards_are_known.Goals as goal

pub returns : goal.returns
returns c = guard_known
