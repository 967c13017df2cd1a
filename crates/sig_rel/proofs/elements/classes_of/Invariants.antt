use Rattle.sig_rel.proofs.{◌≡◌, take, classes_among}
use Rattle.sig_rel.proofs.elements.classes_of.Given as goal

abbrev pub invariant-loop-element : goal.invariant-loop-element
invariant-loop-element l = l.classes.items ≡ classes_among (take l.element-index l.list)
