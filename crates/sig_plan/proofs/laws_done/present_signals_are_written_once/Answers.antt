use Rattle.sig_plan.proofs.{present_written, written_by_one, written_present}
use Rattle.sig_plan.proofs.laws_done.present_signals_are_written_once.Goals as goal

pub returns : goal.returns
returns c = record { present = present_written; written = written_present; once = written_by_one }
