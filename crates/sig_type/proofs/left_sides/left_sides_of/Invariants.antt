use Rattle.sig_type.proofs.{equations_of, names_in, take, ◌≡◌, flat_map}
use Rattle.sig_tree.specs.Declarations.{left_sides}
use Rattle.sig_type.proofs.left_sides.left_sides_of.Given as goal

abbrev pub invariant-loop-equation : goal.invariant-loop-equation
invariant-loop-equation l = names_in l.all.items ≡ flat_map (λ b. left_sides (equations_of b.now)) (take l.equation-index l.equations)
