use Rattle.sig_solve.proofs.{AreForgotten}
use Rattle.sig_solve.proofs.known.forgotten_but.Given as goal

abbrev pub invariant-loop-place : goal.invariant-loop-place
invariant-loop-place l = AreForgotten l.system l.known l.place l.forgotten.items
