use Rattle.sig_hier.proofs.{◌≡◌, ◌++◌, indent}
use Rattle.sig_hier.proofs.text.write_indent.Given as goal

abbrev pub invariant-loop-level : goal.invariant-loop-level
invariant-loop-level l = l.text.items ≡ l.initial.text.items ++ indent l._level
