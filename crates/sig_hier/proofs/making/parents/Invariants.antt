use Rattle.sig_hier.proofs.{AreParents}
use Rattle.sig_hier.proofs.making.parents.Given as goal

abbrev pub invariant-loop-class : goal.invariant-loop-class
invariant-loop-class l = AreParents l.store.nodes l.guards l.class l.parents.items
