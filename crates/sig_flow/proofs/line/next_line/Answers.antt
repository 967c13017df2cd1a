use Rattle.sig_flow.proofs.{get_or, eqb, arith, ap, ◌∙◌, get_or_default, position_or_len_is, lines_first, lines_last, no_newline}
use Rattle.sig_flow.proofs.line.next_line.Goals as goal

pub returns-in-Some-clause-lines : goal.returns-in-Some-clause-lines
returns-in-Some-clause-lines c =
    let found = c.in-Some.ensures in
    let at = position_or_len_is (λ b. eqb b 10) c.args.bytes.now c.in-Some.end 0 (omega (arith, found.0.high)) (λ k lt. no_newline (get_or c.args.bytes.now k 0) (found.0.before k (omega arith) lt)) (λ _. found.1) in
    rw (c.without_return.ensures, c.split_at.ensures.back) (lines_first c.args.bytes.now c.in-Some.end found.0.high at)

pub returns-in-None-clause-lines : goal.returns-in-None-clause-lines
returns-in-None-clause-lines c =
    let none = c.in-None.ensures in
    lines_last c.args.bytes.now c.requires (λ k d lt. ap (λ b. eqb b 10) (get_or_default c.args.bytes.now k d 0 lt) ∙ no_newline (get_or c.args.bytes.now k 0) (none k (omega arith) lt))
