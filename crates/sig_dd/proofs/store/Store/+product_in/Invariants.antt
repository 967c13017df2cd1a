-- The pairs below one are smaller.
use Rattle.sig_dd.proofs.{pair_weight}
use Rattle.sig_dd.proofs.store.Store.+product_in.Given as goal

abbrev pub decreases-product_in : goal.decreases-product_in
decreases-product_in l = pair_weight l.pair
