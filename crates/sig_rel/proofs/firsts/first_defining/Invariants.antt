-- the first equations among those so far
use Rattle.sig_rel.proofs.{length, defines, AreFirstsSoFar}
use Rattle.sig_rel.proofs.firsts.first_defining.Given as goal

abbrev pub invariant-loop-number : goal.invariant-loop-number
invariant-loop-number l = AreFirstsSoFar defines l.kernel.equations (length l.kernel.signals) l.number l.firsts.items
