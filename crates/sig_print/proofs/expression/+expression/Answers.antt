use Rattle.sig_print.proofs.{◌∷◌, codes, expression_of, left_level, delay_level, mixed_level, primary_level, optional_init_words, expression_words, bare_words, unary_word, binary_word, mark, one, reserved, then_word, then_words, last_word}
use Rattle.sig_print.proofs.expression.+expression.Goals as goal

pub bare-returns-in_ok-word-in-Unary : goal.bare-returns-in_ok-word-in-Unary
bare-returns-in_ok-word-in-Unary t c = rw (c.in-Unary.is, ← c.deref.ensures) (then_word _ c.word-in-Unary.new.self _ _ (unary_word c.in-Unary.op) _
    (rw (← c.unary_word.ensures) c.in_ok-word-in-Unary.ensures)
    (rw (← c.operand_level.ensures) c.expression.ensures))

pub bare-returns-in_ok-word-in-Binary : goal.bare-returns-in_ok-word-in-Binary
bare-returns-in_ok-word-in-Binary t c = rw (c.in-Binary.is, ← c.deref-in-Binary.ensures, ← c.deref-in-Binary-2.ensures)
    (then_words _ c.expression-in-Binary.new.words _ _ (expression_words (left_level c.in-Binary.op) (expression_of c.deref-in-Binary.result.now)) _
    (rw (← c.left_level.ensures) c.in_ok-expression-in-Binary.ensures)
    (then_word _ c.word-in-Binary.new.self _ _ (binary_word c.in-Binary.op) _
    (rw (← c.binary_word.ensures) c.in_ok-word-in-Binary.ensures)
    (rw (← c.right_level.ensures) c.expression-in-Binary-2.ensures)))

pub bare-returns-in_ok-word-in-Delay-2 : goal.bare-returns-in_ok-word-in-Delay-2
bare-returns-in_ok-word-in-Delay-2 t c = rw (c.in-Delay.is, ← c.deref-in-Delay.ensures)
    (then_words _ c.expression-in-Delay.new.words _ _ (expression_words delay_level (expression_of c.deref-in-Delay.result.now)) _
    c.in_ok-expression-in-Delay.ensures
    (then_word _ c.word-in-Delay.new.self _ _ (mark (codes "$")) (one ∷ optional_init_words c.in-Delay.value) c.in_ok-word-in-Delay.ensures
    (then_word _ c.word-in-Delay-2.new.self _ _ one (optional_init_words c.in-Delay.value) c.in_ok-word-in-Delay-2.ensures c.optional_init.ensures)))

pub bare-returns-in_ok-expression-in-Cell-2 : goal.bare-returns-in_ok-expression-in-Cell-2
bare-returns-in_ok-expression-in-Cell-2 t c = rw (c.in-Cell.is, ← c.deref-in-Cell.ensures, ← c.deref-in-Cell-2.ensures)
    (then_words _ c.expression-in-Cell.new.words _ _ (expression_words mixed_level (expression_of c.deref-in-Cell.result.now)) _
    c.in_ok-expression-in-Cell.ensures
    (then_word _ c.word-in-Cell.new.self _ _ (reserved (codes "cell")) _ c.in_ok-word-in-Cell.ensures
    (then_words _ c.expression-in-Cell-2.new.words _ _ (expression_words primary_level (expression_of c.deref-in-Cell-2.result.now)) _
    c.in_ok-expression-in-Cell-2.ensures c.init.ensures)))

pub expression-returns-in_ok-bare : goal.expression-returns-in_ok-bare
expression-returns-in_ok-bare t c = rw (← c.level_of.ensures, ← c.is_looser.ensures, c.if-is_looser.true)
    (then_word _ c.word.new.self _ _ (mark (codes "(")) _ c.in_ok-word.ensures
    (then_words _ c.bare.new.words _ _ (bare_words (expression_of c.args.e.now)) _ c.in_ok-bare.ensures
    (last_word _ _ _ (mark (codes ")")) c.word-then-is_looser.ensures)))
