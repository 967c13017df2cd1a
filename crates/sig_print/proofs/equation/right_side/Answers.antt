use Rattle.sig_print.proofs.{map, codes, default_level, expression_of, constants_words, expression_words, separated, mark, name, then_word, then_words, last_word}
use Rattle.sig_print.proofs.equation.right_side.Goals as goal

pub returns-in_ok-expressions-in-Call : goal.returns-in_ok-expressions-in-Call
returns-in_ok-expressions-in-Call c = rw c.in-Call.is (then_word _ c.word.new.self _ _ (name c.in-Call.name) _ (rw (← c.as_bytes.ensures) c.in_ok-word-in-Call.ensures)
    (then_words _ c.constants.new.words _ _ (constants_words c.in-Call.values.items) _ (rw (← c.deref.ensures.value) c.in_ok-constants-in-Call.ensures)
    (then_word _ c.word-in-Call.new.self _ _ (mark (codes "(")) _ c.in_ok-word-in-Call-2.ensures
    (then_words _ c.expressions.new.words _ _ (separated (expression_words default_level) (mark (codes ",")) (map expression_of c.in-Call.arguments.items)) _
    (rw (← c.deref-in-Call.ensures.value) c.in_ok-expressions-in-Call.ensures)
    (last_word _ _ _ (mark (codes ")")) c.word-in-Call-2.ensures)))))
