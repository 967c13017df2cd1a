use Rattle.sig_print.proofs.{codes, ◌≡◌, ◌++◌, take, spaced_text, further, item_words, mark}
use Rattle.sig_print.proofs.process.further_items.Given as goal

abbrev pub invariant-loop-one : goal.invariant-loop-one
invariant-loop-one l = l.words ≡ l.initial.words ++ spaced_text (further item_words (mark (codes ",")) (take l.one-index l.all))
