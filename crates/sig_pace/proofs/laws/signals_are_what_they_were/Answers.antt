use Rattle.sig_pace.proofs.{old_signals, pace_signals}
use Rattle.sig_pace.proofs.laws.signals_are_what_they_were.Goals as goal

pub returns-clause-old : goal.returns-clause-old
returns-clause-old c = old_signals

pub returns-clause-paces : goal.returns-clause-paces
returns-clause-paces c = pace_signals
