use Rattle.sig_exec.proofs.{AreFunctionsOfFirst}
use Rattle.sig_exec.proofs.functions.Functions.new.Given as goal

abbrev pub invariant-loop-place : goal.invariant-loop-place
invariant-loop-place l = AreFunctionsOfFirst l.image l.place l.functions
