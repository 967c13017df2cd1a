use Rattle.sig_flow.proofs.{◌≡◌, ◌<◌, length, arith, blank_behind, truth_no_blank, truth_some, truth_word, words_next}
use Rattle.sig_flow.proofs.word.next_truth.Goals as goal

pub returns-clause-word : goal.returns-clause-word
returns-clause-word c =
    let found = c.in_ok-truth in
    let size : c.truth_length.result ≡ length (truth_word found.truth) = c.truth_length.ensures in
    let some = truth_some found.truth in
    let lt : c.blanks_in_front-start.result < length c.args.line.now = omega (arith, some, found.ensures.within, c.split_at.ensures.back_len) in
    rw (c.split_at-2.ensures.front, c.split_at-2.ensures.back)
    (words_next c.args.col c.args.line.now c.split_at.result.1.now c.blanks_in_front-start.result c.truth_length.result lt
    c.split_at.ensures.back c.blanks_in_front-start.ensures.blank (c.blanks_in_front-start.ensures.stop lt)
    (omega (arith, size, found.ensures.within))
    (λ k below. truth_no_blank found.truth c.split_at.result.1.now k found.ensures.word (omega (arith, size, below)))
    (λ below. blank_behind c.split_at.result.1.now c.split_at-2.result.1.now c.truth_length.result below c.split_at-2.ensures.back (c.is_inside_word.ensures c.if-is_inside_word.false)))
