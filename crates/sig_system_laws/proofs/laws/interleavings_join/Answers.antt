use Rattle.sig_system_laws.proofs.{join, one_order}
use Rattle.sig_system_laws.proofs.laws.interleavings_join.Goals as goal

pub returns : goal.returns
returns c = record { join = join; one = one_order }
