use Rattle.sig_work.proofs.{AreJoined}
use Rattle.sig_work.proofs.joining.join_all.Given as goal

abbrev pub invariant-loop-number : goal.invariant-loop-number
invariant-loop-number l = AreJoined l.plan.links l.capacity l.number l.fn.members l.members
