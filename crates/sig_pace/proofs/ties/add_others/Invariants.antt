use Rattle.sig_pace.proofs.{◌≡◌, ◌+◌, ◌++◌, drop, suc, together_from}
use Rattle.sig_pace.proofs.ties.add_others.Given as goal

abbrev pub invariant-loop-number : goal.invariant-loop-number
invariant-loop-number l = l.equations.items ++ together_from l.kernel (suc l.kernel.inputs + l.number) (drop l.number l.others) ≡ l.fn.equations.items ++ together_from l.kernel (suc l.kernel.inputs) l.others
