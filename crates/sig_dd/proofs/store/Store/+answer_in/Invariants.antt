-- The questions below one are smaller.
use Rattle.sig_dd.proofs.{weight}
use Rattle.sig_dd.proofs.store.Store.+answer_in.Given as goal

abbrev pub decreases-answer_in : goal.decreases-answer_in
decreases-answer_in l = weight l.question
