use Rattle.sig_pace.proofs.{AreNotBelowYet}
use Rattle.sig_pace.proofs.tops.not_below.Given as goal

abbrev pub invariant-loop-candidate : goal.invariant-loop-candidate
invariant-loop-candidate l = AreNotBelowYet l.asked.kernel.now l.signal l.candidates l.candidate-index l.others.items
