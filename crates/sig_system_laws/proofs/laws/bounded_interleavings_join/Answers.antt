use Rattle.sig_system_laws.proofs.{all_begin_within, join_within, one_still}
use Rattle.sig_system_laws.proofs.laws.bounded_interleavings_join.Goals as goal

pub returns : goal.returns
returns c = record { join = join_within; all = all_begin_within; one = one_still }
