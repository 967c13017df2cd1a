use Rattle.sig_pace.proofs.{◌≡◌, ◌+◌, ◌++◌, drop, marks_from}
use Rattle.sig_pace.proofs.paces.marks_of.Given as goal

abbrev pub invariant-loop-number : goal.invariant-loop-number
invariant-loop-number l = l.marks.items ++ marks_from l.kernel (1 + l.number) (drop l.number l.least) ≡ marks_from l.kernel 1 l.least
