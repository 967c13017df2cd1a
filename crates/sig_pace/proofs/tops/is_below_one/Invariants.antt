use Rattle.sig_pace.proofs.{take, Contains, IsBelow, Candidate}
use Rattle.sig_pace.proofs.tops.is_below_one.Given as goal

abbrev pub invariant-loop-other : goal.invariant-loop-other
invariant-loop-other l = (m : Candidate) → Contains (take l.other-index l.others) m → IsBelow l.asked.kernel.now l.candidate.signal m.signal → ⊥
