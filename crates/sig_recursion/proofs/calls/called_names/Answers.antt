use Rattle.sig_recursion.proofs.{Body, called_in, equations_of, [], Bor, grown}
use Rattle.sig_recursion.proofs.calls.called_names.Goals as goal

pub returns : goal.returns
returns c = grown called_in (λ (b : Bor Body). equations_of b.now) [] _ c.args.equations.now _ c.loop-equation-test.false c.loop-equation.invariant
