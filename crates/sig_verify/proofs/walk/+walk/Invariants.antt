-- The nodes below one stand before it.
use Rattle.sig_verify.proofs.walk.+walk.Given as goal

abbrev pub decreases-walk : goal.decreases-walk
decreases-walk l = l.n
