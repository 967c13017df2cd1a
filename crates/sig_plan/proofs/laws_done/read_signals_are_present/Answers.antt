use Rattle.sig_plan.proofs.{read_present}
use Rattle.sig_plan.proofs.laws_done.read_signals_are_present.Goals as goal

pub returns : goal.returns
returns c = read_present
