use Rattle.sig_plan.proofs.{needed_earlier, read_earlier}
use Rattle.sig_plan.proofs.laws_done.operations_have_what_they_need.Goals as goal

pub returns : goal.returns
returns c = record { needs = needed_earlier; reads = read_earlier }
