use Rattle.sig_kernel.proofs.{length}
use Rattle.sig_kernel.proofs.valid.+names_differ.Given as goal

abbrev pub decreases-names_differ : goal.decreases-names_differ
decreases-names_differ l = length l.signals.now
