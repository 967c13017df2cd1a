-- The pairs below one are smaller.
use Rattle.sig_dd.proofs.{pair_weight}
use Rattle.sig_dd.proofs.store.Store.+meets_in.Given as goal

abbrev pub decreases-meets_in : goal.decreases-meets_in
decreases-meets_in l = pair_weight l.pair
