use Rattle.sig_system_laws.proofs.{bounds_begin, without_bounds}
use Rattle.sig_system_laws.proofs.laws.bounds_add_nothing.Goals as goal

pub returns : goal.returns
returns c = record { reached = without_bounds; begins = bounds_begin }
