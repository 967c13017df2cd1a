use Rattle.sig_type.proofs.{take, [], ◌∷◌, each, undefined_in, declaration_in, Finds}
use Rattle.sig_type.proofs.signals.undefined.Given as goal

abbrev pub invariant-loop-one : goal.invariant-loop-one
invariant-loop-one l = Finds l.initial.first l.first (each (λ d. undefined_in l.left_sides (declaration_in d ∷ [])) (take l.one-index l.declared))
