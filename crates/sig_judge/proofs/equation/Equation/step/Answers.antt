use Rattle.sig_judge.proofs.{[], map, sym, subst, Equal, EquationSteps, DecidesWhether, equation_of, node_expression, Equation, equal_whether}
use Rattle.sig_judge.proofs.equation.Equation.step.Goals as goal

pub returns-in-Equal : goal.returns-in-Equal
returns-in-Equal c =
    subst (λ (q : Equation). DecidesWhether (EquationSteps c.args.row.now (equation_of q)) c.agree.result (Equal (map node_expression c.agree.new.operands.items) [])) (sym c.in-Equal.is)
    (equal_whether c.args.row.now (map node_expression c.in-Equal.operands.items) c.agree.result (map node_expression c.agree.new.operands.items) c.agree.ensures)
