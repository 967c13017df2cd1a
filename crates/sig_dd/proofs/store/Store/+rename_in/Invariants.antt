-- The functions below one stand before it.
use Rattle.sig_dd.proofs.store.Store.+rename_in.Given as goal

abbrev pub decreases-rename_in : goal.decreases-rename_in
decreases-rename_in l = l.f.number
