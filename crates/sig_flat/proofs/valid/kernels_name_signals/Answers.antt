use Rattle.sig_flat.proofs.{signals_named}
use Rattle.sig_flat.proofs.valid.kernels_name_signals.Goals as goal

pub returns : goal.returns
returns c = signals_named
