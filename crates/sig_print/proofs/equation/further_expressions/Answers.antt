use Rattle.sig_print.proofs.{rules, ◌∷◌, default_level, expression_of, expression_words, mark, further_step, each_end}
use Rattle.sig_print.proofs.equation.further_expressions.Goals as goal

pub loop-e-preserved : goal.loop-e-preserved
loop-e-preserved c = further_step (λ e. expression_words default_level (expression_of e)) (mark c.args.separator.now) _ _ _ _ c.args.all.now _ c.e-item.result
    c.e-item.is (search rules) c.loop-e.invariant c.in_ok-word.ensures c.in_ok-expression.ensures

pub returns : goal.returns
returns c = each_end (λ e. mark c.args.separator.now ∷ expression_words default_level e) expression_of _ _ c.args.all.now _ c.loop-e-test.false c.loop-e.invariant
