use Rattle.sig_rel.proofs.{is_numbered, IsNoneBelow}
use Rattle.sig_rel.proofs.rules.is_listed.Given as goal

abbrev pub invariant-loop-condition : goal.invariant-loop-condition
invariant-loop-condition l = IsNoneBelow (is_numbered l.signal) l.conditions l.condition-index
