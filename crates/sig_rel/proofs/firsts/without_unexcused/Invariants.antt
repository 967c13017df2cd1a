-- what is left of the first equations behind those so far
use Rattle.sig_rel.proofs.{length, AreLeftSoFar}
use Rattle.sig_rel.proofs.firsts.without_unexcused.Given as goal

abbrev pub invariant-loop-equation : goal.invariant-loop-equation
invariant-loop-equation l = AreLeftSoFar l.kernel.equations l.least (length l.kernel.signals) l.equation-index l.firsts
