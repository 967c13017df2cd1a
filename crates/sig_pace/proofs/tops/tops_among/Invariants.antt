use Rattle.sig_pace.proofs.{take, AreTops}
use Rattle.sig_pace.proofs.tops.tops_among.Given as goal

abbrev pub invariant-loop-candidate : goal.invariant-loop-candidate
invariant-loop-candidate l = AreTops l.asked.kernel.now (take l.candidate-index l.candidates) l.tops.items
