use Rattle.sig_print.proofs.{codes, ◌≡◌, ◌++◌, take, spaced_text, declared_of, further, group_words, mark}
use Rattle.sig_print.proofs.process.further_groups.Given as goal

abbrev pub invariant-loop-one : goal.invariant-loop-one
invariant-loop-one l = l.words ≡ l.initial.words ++ spaced_text (further (λ g. group_words (declared_of g)) (mark (codes ";")) (take l.one-index l.all))
