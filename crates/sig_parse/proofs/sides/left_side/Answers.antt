use Rattle.sig_parse.proofs.{codes, inr, mark, both_limits, Separated, IsName, IsLeft, viewed, between, handed, deep_here, wrong_here, left_deep, left_names_refused, left_close_refused, left_here}
use Rattle.sig_parse.proofs.sides.left_side.Goals as goal

pub returns-in_ok-_closed-clause-reads : goal.returns-in_ok-_closed-clause-reads
returns-in_ok-_closed-clause-reads c = viewed (IsLeft both_limits c.args.depth c.in_ok-all.all.items) (λ front is. inr ((λ _. c.in_ok-inside.ensures.deeper.0), is))
    (between (mark (codes "(")) (mark (codes ")")) (Separated IsName (mark (codes ",")) c.in_ok-all.all.items) 0 c.in_ok-_opened._opened c.in_ok-_closed._closed
    c.in_ok-_opened.ensures.reads c.in_ok-all.ensures.reads c.in_ok-_closed.ensures.reads)

pub returns-in_err-inside-clause-refuses : goal.returns-in_err-inside-clause-refuses
returns-in_err-inside-clause-refuses c = handed _ _ _ c.from_residual.ensures (λ text.
    deep_here c.in_err-inside.field-0.0 c.in_err-inside.ensures.too_deep.0 (left_deep c.args.depth c.args.parser.now.leaves c.in_err-inside.ensures.too_deep.1 c.if-is.ensures))

pub returns-in_err-all-clause-refuses : goal.returns-in_err-all-clause-refuses
returns-in_err-all-clause-refuses c = handed _ _ _ c.from_residual-in_err-all.ensures (λ text.
    left_names_refused c.args.depth c.in_ok-_opened._opened c.in_ok-inside.ensures.deeper.0 c.in_ok-_opened.ensures.reads _ _ (c.in_err-all.ensures.refuses text))

pub returns-in_err-_closed-clause-refuses : goal.returns-in_err-_closed-clause-refuses
returns-in_err-_closed-clause-refuses c = handed _ _ _ c.from_residual-in_err-_closed.ensures (λ text.
    left_close_refused c.args.depth c.in_ok-_opened._opened c.in_ok-all.all.items c.in_ok-inside.ensures.deeper.0 c.in_ok-_opened.ensures.reads c.in_ok-all.ensures.reads c.in_ok-all.ensures.stops _ _ (c.in_err-_closed.ensures.refuses text))

pub returns-in_err-name-clause-refuses : goal.returns-in_err-name-clause-refuses
returns-in_err-name-clause-refuses c = handed _ _ _ c.from_residual-in_err-name.ensures (λ text.
    wrong_here c.in_err-name.field-0.0 (c.in_err-name.ensures.stays text) (c.in_err-name.ensures.missing text).0 (left_here c.args.depth c.args.parser.now.leaves c.if-is.ensures (c.in_err-name.ensures.missing text).1))
