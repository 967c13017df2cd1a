use Rattle.sig_scope.proofs.{declaration_in, declarations_in, map, take, ◌++◌, ◌≡◌}
use Rattle.sig_scope.proofs.scope.add_declared.Given as goal

abbrev pub invariant-loop-one : goal.invariant-loop-one
invariant-loop-one l = declarations_in l.all.items ≡ declarations_in l.initial.all.items ++ map declaration_in (take l.one-index l.more)
