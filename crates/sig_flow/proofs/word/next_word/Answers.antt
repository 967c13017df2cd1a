use Rattle.sig_flow.proofs.{◌<◌, length, arith, words_none, words_next}
use Rattle.sig_flow.proofs.word.next_word.Goals as goal

pub returns-then-start-line-clause-none : goal.returns-then-start-line-clause-none
returns-then-start-line-clause-none c =
    words_none c.args.col c.args.line.now (λ k lt. c.blanks_in_front-start.ensures.blank k (omega arith))

pub returns-clause-word : goal.returns-clause-word
returns-clause-word c =
    let lt : c.blanks_in_front-start.result < length c.args.line.now = omega arith in
    rw (c.split_at-2.ensures.front, c.split_at-2.ensures.back)
    (words_next c.args.col c.args.line.now c.split_at.result.1.now c.blanks_in_front-start.result c.word_length.result lt
    c.split_at.ensures.back c.blanks_in_front-start.ensures.blank (c.blanks_in_front-start.ensures.stop lt)
    c.word_length.ensures.within c.word_length.ensures.word c.word_length.ensures.stop)
