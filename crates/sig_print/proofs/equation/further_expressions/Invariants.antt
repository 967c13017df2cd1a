use Rattle.sig_print.proofs.{take, ◌≡◌, ◌++◌, spaced_text, default_level, expression_of, expression_words, further, mark}
use Rattle.sig_print.proofs.equation.further_expressions.Given as goal

abbrev pub invariant-loop-e : goal.invariant-loop-e
invariant-loop-e l = l.words ≡ l.initial.words ++ spaced_text (further (λ e. expression_words default_level (expression_of e)) (mark l.separator) (take l.e-index l.all))
