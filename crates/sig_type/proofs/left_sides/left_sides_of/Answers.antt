use Rattle.sig_type.proofs.{[], Bor, Body, equations_of, grown}
use Rattle.sig_tree.specs.Declarations.{left_sides}
use Rattle.sig_type.proofs.left_sides.left_sides_of.Goals as goal

pub returns : goal.returns
returns c = grown left_sides (λ (b : Bor Body). equations_of b.now) [] _ c.args.equations.now _ c.loop-equation-test.false c.loop-equation.invariant
