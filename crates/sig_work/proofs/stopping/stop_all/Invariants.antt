use Rattle.sig_work.proofs.{ChangedBelow, ShareStopped}
use Rattle.sig_work.proofs.stopping.stop_all.Given as goal

abbrev pub invariant-loop-share : goal.invariant-loop-share
invariant-loop-share l = ChangedBelow ShareStopped l.share-index l.fn.shares l.shares
