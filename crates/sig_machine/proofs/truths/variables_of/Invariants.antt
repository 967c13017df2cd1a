use Rattle.sig_machine.proofs.{AreEntered}
use Rattle.sig_machine.proofs.truths.variables_of.Given as goal

abbrev pub invariant-loop-variable : goal.invariant-loop-variable
invariant-loop-variable l = AreEntered l.conditions l.signals l.variable l.variables.items
