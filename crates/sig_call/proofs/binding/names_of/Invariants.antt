use Rattle.sig_call.proofs.{◌≡◌, take, bindings_in, texts_bound}
use Rattle.sig_call.proofs.binding.names_of.Given as goal

abbrev pub invariant-loop-one : goal.invariant-loop-one
invariant-loop-one l = l.names ≡ texts_bound (bindings_in (take l.one-index l.bound))
