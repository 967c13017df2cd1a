use Rattle.sig_recursion.proofs.{called_in, equations_of, names_in, take, ◌≡◌, flat_map}
use Rattle.sig_recursion.proofs.calls.called_names.Given as goal

abbrev pub invariant-loop-equation : goal.invariant-loop-equation
invariant-loop-equation l = names_in l.all.items ≡ flat_map (λ b. called_in (equations_of b.now)) (take l.equation-index l.equations)
