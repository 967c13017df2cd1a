use Rattle.sig_flat.proofs.{within, speak}
use Rattle.sig_flat.proofs.laws.kernels_name_their_signals.Goals as goal

pub returns-clause-within : goal.returns-clause-within
returns-clause-within c = within

pub returns-clause-speak : goal.returns-clause-speak
returns-clause-speak c = speak
