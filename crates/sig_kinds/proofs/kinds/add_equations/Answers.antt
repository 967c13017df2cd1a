use Rattle.sig_kinds.proofs.{map, ap, ◌∙◌, ◌++◌, Bor, Equations, equations_of, Body, kinds_flat, known, kinds_in, expressions_of, bodies_in, grown}
use Rattle.sig_kinds.proofs.kinds.add_equations.Goals as goal

pub returns : goal.returns
returns c =
    grown (λ (eq : Equations). map known (kinds_in c.args.scope.now (expressions_of eq))) (λ (b : Bor Body). equations_of b.now) c.args.all.now.items _ c.args.equations.now _ c.loop-equation-test.false c.loop-equation.invariant
    ∙ ap (λ l. c.args.all.now.items ++ l) (kinds_flat c.args.scope.now (bodies_in c.args.equations.now))
