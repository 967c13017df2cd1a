use Rattle.sig_flow.proofs.{◌<◌, length, arith, words_next}
use Rattle.sig_flow.proofs.word.next_number.Goals as goal

pub returns-in-Some-clause-word : goal.returns-in-Some-clause-word
returns-in-Some-clause-word c =
    let found = c.in-Some.ensures in
    let lt : c.blanks_in_front-start.result < length c.args.line.now = omega (arith, found.some, found.within, c.split_at.ensures.back_len) in
    rw (c.split_at-in-Some.ensures.front, c.split_at-in-Some.ensures.back)
    (words_next c.args.col c.args.line.now c.split_at.result.1.now c.blanks_in_front-start.result c.in-Some.number.length lt
    c.split_at.ensures.back c.blanks_in_front-start.ensures.blank (c.blanks_in_front-start.ensures.stop lt)
    found.within found.word found.stop)
