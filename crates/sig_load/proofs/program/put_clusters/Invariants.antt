-- the pieces of the numbers so far are there
use Rattle.sig_load.proofs.{Appends, each, cluster}
use Rattle.sig_load.proofs.program.put_clusters.Given as goal

abbrev pub invariant-loop-before : goal.invariant-loop-before
invariant-loop-before l = Appends l.initial.text.items (each cluster l.before) l.text.items
