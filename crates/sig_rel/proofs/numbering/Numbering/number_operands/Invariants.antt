use Rattle.sig_rel.proofs.{length, conditions_of, AreGiven}
use Rattle.sig_rel.proofs.numbering.Numbering.number_operands.Given as goal

abbrev pub invariant-loop-operand : goal.invariant-loop-operand
invariant-loop-operand l = AreGiven l.kernel l.least (length (conditions_of l.kernel)) l.self
