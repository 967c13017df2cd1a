use Rattle.sig_work.proofs.{IsInFirst, IsLeastOf}
use Rattle.sig_work.proofs.share.Share.least_failure.Given as goal

abbrev pub invariant-loop-member : goal.invariant-loop-member
invariant-loop-member l = IsLeastOf (IsInFirst l.member-index l.self) l.least
