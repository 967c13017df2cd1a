use Rattle.sig_flow.proofs.{get_or, arith, sym, no_star, star_at, star_nowhere}
use Rattle.sig_flow.proofs.value.run_with_star.Goals as goal

pub returns-in-Some : goal.returns-in-Some
returns-in-Some c =
    let found = c.in-Some.ensures in
    rw (c.starred.ensures, c.split_at.ensures.back) (sym (star_at c.args.kind c.args.word.now c.in-Some.star found.0.high (λ k lt. no_star (get_or c.args.word.now k 0) (found.0.before k (omega arith) lt)) found.1))

pub returns-in-None : goal.returns-in-None
returns-in-None c =
    rw (c.repeated.ensures, c.value_of.ensures) (sym (star_nowhere c.args.kind c.args.word.now (λ k lt. no_star (get_or c.args.word.now k 0) (c.in-None.ensures k (omega arith) lt))))
