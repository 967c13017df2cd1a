-- those so far were added, and the others are left
use Rattle.sig_flat.proofs.{◌≡◌, drop, map, flat_equation_of, with_flat_equations}
use Rattle.sig_flat.proofs.flat_equation.add_equations.Given as goal

abbrev pub invariant-loop-equation : goal.invariant-loop-equation
invariant-loop-equation l = with_flat_equations (map flat_equation_of (drop l.equation-index l.equations)) l.draft ≡ with_flat_equations (map flat_equation_of l.equations) l.initial.draft
