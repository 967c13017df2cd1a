use Rattle.sig_rel.proofs.{length, conditions_of, AreGiven}
use Rattle.sig_rel.proofs.numbering.Numbering.number_elements.Given as goal

abbrev pub invariant-loop-element : goal.invariant-loop-element
invariant-loop-element l = AreGiven l.kernel l.least (length (conditions_of l.kernel)) l.self
