use Rattle.sig_type.proofs.{take, [], ◌∷◌, each, given_in, Finds}
use Rattle.sig_type.proofs.signals.inputs_defined.Given as goal

abbrev pub invariant-loop-name : goal.invariant-loop-name
invariant-loop-name l = Finds l.initial.first l.first (each (λ n. given_in l.scope (n.now ∷ [])) (take l.name-index l.left_sides))
