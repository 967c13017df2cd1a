use Rattle.sig_flat.proofs.{begins}
use Rattle.sig_flat.proofs.laws.kernels_keep_signals.Goals as goal

-- src/laws.rt:10:1
pub returns-clause-signals : goal.returns-clause-signals
returns-clause-signals c = begins
