-- those so far are bound, and the others are left
use Rattle.sig_call.proofs.{◌≡◌, ◌++◌, drop, length, bound_constants, declarations_in, bindings_in}
use Rattle.sig_call.proofs.binding.bind_constants.Given as goal

abbrev pub invariant-loop-param : goal.invariant-loop-param
invariant-loop-param l = bindings_in l.bound.items ++ bound_constants (declarations_in (drop (length l.yielded) l.params)) (drop (length l.yielded) l.constants)
    ≡ bindings_in l.initial.bound.items ++ bound_constants (declarations_in l.params) l.constants
