use Rattle.sig_pace.proofs.{◌≡◌, ◌+◌, ◌++◌, drop, paces_from}
use Rattle.sig_pace.proofs.paces.paces_of.Given as goal

abbrev pub invariant-loop-number : goal.invariant-loop-number
invariant-loop-number l = l.paces.items ++ paces_from l.kernel (1 + l.number) (drop l.number l.least) ≡ paces_from l.kernel 1 l.least
