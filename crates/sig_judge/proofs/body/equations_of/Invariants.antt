-- those so far are kept
use Rattle.sig_judge.proofs.{◌≡◌, map, take, flat_equation_of, equation_of, without_prefix}
use Rattle.sig_judge.proofs.body.equations_of.Given as goal

abbrev pub invariant-loop-equation : goal.invariant-loop-equation
invariant-loop-equation l = map equation_of l.body.items ≡ map without_prefix (map flat_equation_of (take l.equation-index l.equations))
