use Rattle.sig_call.proofs.{◌≡◌, map, take, value_of, copy_in}
use Rattle.sig_call.proofs.copy.ProcessCopy.values.Given as goal

abbrev pub invariant-loop-constant : goal.invariant-loop-constant
invariant-loop-constant l = l.values.items ≡ map (value_of (copy_in l.self)) (take l.constant-index l.constants)
