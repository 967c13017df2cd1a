-- the pieces of the numbers so far are there
use Rattle.sig_load.proofs.{Appends, each, further}
use Rattle.sig_load.proofs.program.put_further.Given as goal

abbrev pub invariant-loop-before : goal.invariant-loop-before
invariant-loop-before l = Appends l.initial.text.items (each further l.before) l.text.items
