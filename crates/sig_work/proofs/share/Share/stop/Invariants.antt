use Rattle.sig_work.proofs.{ChangedBelow, HasStopped}
use Rattle.sig_work.proofs.share.Share.stop.Given as goal

abbrev pub invariant-loop-member : goal.invariant-loop-member
invariant-loop-member l = ChangedBelow HasStopped l.member-index l.fn.self.members.items l.member-items
