use Rattle.sig_type.proofs.{declaration_of, HasInit, take, AllByRecursion}
use Rattle.sig_type.proofs.inits.all_have_init.Given as goal

abbrev pub invariant-loop-name : goal.invariant-loop-name
invariant-loop-name l = AllByRecursion (λ name. HasInit (declaration_of l.scope name.text)) (take l.name-index l.names)
