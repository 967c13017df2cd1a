use Rattle.sig_parse.proofs.{codes, inr, mark, Listed, IsConstant, AreConstants, viewed, between, handed, constants_lifts, constants_close, some_constants}
use Rattle.sig_parse.proofs.sides.constants.Goals as goal

pub returns-clause-reads : goal.returns-clause-reads
returns-clause-reads c = viewed (AreConstants c.in_ok-all.all.items) (λ front is. inr is)
    (between (mark (codes "{")) (mark (codes "}")) (Listed IsConstant (mark (codes ",")) c.in_ok-all.all.items) 0 c.in-Some._opened c.in_ok-_closed._closed
    c.in-Some.ensures.0 c.in_ok-all.ensures.reads c.in_ok-_closed.ensures.reads)

pub returns-in_err-all-clause-refuses : goal.returns-in_err-all-clause-refuses
returns-in_err-all-clause-refuses c = handed _ _ _ c.from_residual.ensures (λ text. constants_lifts c.in-Some._opened c.in-Some.ensures.0 _ _ (c.in_err-all.ensures.refuses text))

pub returns-in_err-_closed-clause-refuses : goal.returns-in_err-_closed-clause-refuses
returns-in_err-_closed-clause-refuses c = handed _ _ _ c.from_residual-in_err-_closed.ensures (λ text. constants_close c.in-Some._opened c.in-Some.ensures.0 c.in_ok-all.ensures.closes _ _ (c.in_err-_closed.ensures.refuses text))

pub returns-clause-settles : goal.returns-clause-settles
returns-clause-settles c = some_constants c.in-Some._opened c.in_ok-_closed._closed c.in_ok-all.all.items c.in-Some.ensures.0 c.in_ok-all.ensures.reads c.in_ok-_closed.ensures.reads
