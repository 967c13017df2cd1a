use Rattle.sig_scope.proofs.{declarations_in, texts_in, take, ◌≡◌}
use Rattle.sig_scope.proofs.scope.names_of.Given as goal

abbrev pub invariant-loop-one : goal.invariant-loop-one
invariant-loop-one l = l.names ≡ texts_in (declarations_in (take l.one-index l.declared))
