use Rattle.sig_print.proofs.{default_level, expression_of, expression_words, then_words}
use Rattle.sig_print.proofs.equation.expressions.Goals as goal

pub returns-in_ok-expression-in-Some : goal.returns-in_ok-expression-in-Some
returns-in_ok-expression-in-Some c = rw c.in-Some.ensures.cases.0 (then_words _ c.expression.new.words _ _ (expression_words default_level (expression_of c.in-Some.first.now)) _
    c.in_ok-expression-in-Some.ensures c.further_expressions.ensures)
