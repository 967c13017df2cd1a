use Rattle.sig_parse.proofs.{codes, map, sum_by, mark, expression_of, both_limits, operators, Listed, IsExpression, between, handed, arguments_opening, arguments_lift, arguments_close}
use Rattle.sig_parse.proofs.sides.arguments.Goals as goal

pub returns-clause-reads : goal.returns-clause-reads
returns-clause-reads c = between (mark (codes "(")) (mark (codes ")")) (Listed (IsExpression both_limits c.args.depth) (mark (codes ",")) (map expression_of c.in_ok-all.all.items))
    (sum_by operators (map expression_of c.in_ok-all.all.items)) c.in_ok-_opened._opened c.in_ok-_closed._closed
    c.in_ok-_opened.ensures.reads c.in_ok-all.ensures.reads c.in_ok-_closed.ensures.reads

pub returns-in_err-_opened-clause-refuses : goal.returns-in_err-_opened-clause-refuses
returns-in_err-_opened-clause-refuses c = handed _ _ _ c.from_residual.ensures (λ few text. arguments_opening c.args.depth c.args.parser.now.operators _ few _ _ (c.in_err-_opened.ensures.refuses text))

pub returns-in_err-all-clause-refuses : goal.returns-in_err-all-clause-refuses
returns-in_err-all-clause-refuses c = let opened = c.in_ok-_opened.ensures.reads in
    handed _ _ _ c.from_residual-in_err-all.ensures (λ few text. arguments_lift c.args.depth c.in_ok-_opened._opened opened _ _ (c.in_err-all.ensures.refuses (opened.few few) text))

pub returns-in_err-_closed-clause-refuses : goal.returns-in_err-_closed-clause-refuses
returns-in_err-_closed-clause-refuses c = let opened = c.in_ok-_opened.ensures.reads in
    handed _ _ _ c.from_residual-in_err-_closed.ensures (λ few text. arguments_close c.args.depth c.in_ok-_opened._opened opened (c.in_ok-all.ensures.closes (opened.few few)) _ _ (c.in_err-_closed.ensures.refuses text))
