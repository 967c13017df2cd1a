use Rattle.sig_rel.proofs.{length, conditions_of, AreGiven}
use Rattle.sig_rel.proofs.numbering.Numbering.number_equations.Given as goal

abbrev pub invariant-loop-equation : goal.invariant-loop-equation
invariant-loop-equation l = AreGiven l.kernel l.least (length (conditions_of l.kernel)) l.self
