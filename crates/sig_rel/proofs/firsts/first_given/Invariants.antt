-- the first equations among those so far
use Rattle.sig_rel.proofs.{length, gives, AreFirstsSoFar}
use Rattle.sig_rel.proofs.firsts.first_given.Given as goal

abbrev pub invariant-loop-number : goal.invariant-loop-number
invariant-loop-number l = AreFirstsSoFar (gives l.least) l.kernel.equations (length l.kernel.signals) l.number l.firsts.items
