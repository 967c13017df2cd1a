use Rattle.sig_work.proofs.{IsLeastOf, IsOfFirst}
use Rattle.sig_work.proofs.word.least_failure.Given as goal

abbrev pub invariant-loop-share : goal.invariant-loop-share
invariant-loop-share l = IsLeastOf (IsOfFirst l.share-index l.shares) l.least
