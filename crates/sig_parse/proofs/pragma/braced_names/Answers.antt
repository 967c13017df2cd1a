use Rattle.sig_parse.proofs.{codes, mark, Separated, IsName, between, handed, covered, braced_open, braced_inside, braced_close}
use Rattle.sig_parse.proofs.pragma.braced_names.Goals as goal

pub returns-clause-reads : goal.returns-clause-reads
returns-clause-reads c = between (mark (codes "{")) (mark (codes "}")) (Separated IsName (mark (codes ",")) c.in_ok-all.all.items) 0 c.in_ok-_opened._opened c.in_ok-_closed._closed
    c.in_ok-_opened.ensures.reads c.in_ok-all.ensures.reads c.in_ok-_closed.ensures.reads

pub returns-in_err-_opened-clause-refuses : goal.returns-in_err-_opened-clause-refuses
returns-in_err-_opened-clause-refuses c = handed _ _ _ c.from_residual.ensures (λ text. braced_open (c.in_err-_opened.ensures.refuses text))

pub returns-in_err-all-clause-refuses : goal.returns-in_err-all-clause-refuses
returns-in_err-all-clause-refuses c = handed _ _ _ c.from_residual-in_err-all.ensures (λ text. braced_inside c.in_ok-_opened._opened (covered c.in_ok-_opened.ensures.reads) (c.in_err-all.ensures.refuses text))

pub returns-in_err-_closed-clause-refuses : goal.returns-in_err-_closed-clause-refuses
returns-in_err-_closed-clause-refuses c = handed _ _ _ c.from_residual-in_err-_closed.ensures (λ text. braced_close c.in_ok-_opened._opened c.in_ok-all.all.items (covered c.in_ok-_opened.ensures.reads) (covered c.in_ok-all.ensures.reads) c.in_ok-all.ensures.stops (c.in_err-_closed.ensures.refuses text))
