use Rattle.sig_print.proofs.{codes, ◌++◌, constant_words, further, mark, joined, then_word, then_words, last_word}
use Rattle.sig_print.proofs.equation.constants.Goals as goal

pub returns-in_ok-further_constants-in-Some : goal.returns-in_ok-further_constants-in-Some
returns-in_ok-further_constants-in-Some c = rw c.in-Some.ensures.cases.0 (then_word _ c.word.new.self _ _ (mark (codes "{")) _ c.in_ok-word-in-Some.ensures
    (then_words _ c.further_constants.new.words _ _ (constant_words c.in-Some.first.now ++ further constant_words (mark (codes ",")) c.in-Some.rest.now) _
    (joined _ _ _ (constant_words c.in-Some.first.now) _ c.in_ok-constant-in-Some.ensures c.in_ok-further_constants-in-Some.ensures)
    (last_word _ _ _ (mark (codes "}")) c.word-in-Some.ensures)))
