use Rattle.sig_print.proofs.{codes, take, ◌≡◌, ◌++◌, spaced_text, constant_words, further, mark}
use Rattle.sig_print.proofs.equation.further_constants.Given as goal

abbrev pub invariant-loop-one : goal.invariant-loop-one
invariant-loop-one l = l.words ≡ l.initial.words ++ spaced_text (further constant_words (mark (codes ",")) (take l.one-index l.all))
