-- The pairs below one are smaller.
use Rattle.sig_verify.proofs.{weight}
use Rattle.sig_verify.proofs.diagrams.Diagrams.+meets_in.Given as goal

abbrev pub decreases-meets_in : goal.decreases-meets_in
decreases-meets_in l = weight l.pair
