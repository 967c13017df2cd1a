use Rattle.sig_part.proofs.{AreLinksBefore}
use Rattle.sig_part.proofs.links.links_of.Given as goal

abbrev pub invariant-loop-number : goal.invariant-loop-number
invariant-loop-number l = AreLinksBefore l.signals l.marks l.number 0 l.links.items
