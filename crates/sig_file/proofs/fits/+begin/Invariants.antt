use Rattle.sig_file.proofs.{length}
use Rattle.sig_file.proofs.fits.+begin.Given as goal

abbrev pub decreases-begin : goal.decreases-begin
decreases-begin l = length l.operands.now
