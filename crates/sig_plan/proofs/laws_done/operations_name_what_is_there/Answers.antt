use Rattle.sig_plan.proofs.{equation_below, read_below, written_below}
use Rattle.sig_plan.proofs.laws_done.operations_name_what_is_there.Goals as goal

pub returns : goal.returns
returns c = record { reads = read_below; writes = written_below; equations = equation_below }
