use Rattle.sig_parse.proofs.{expression_of, handed, since_refused, right_lifts, right_settles_expression, covered}
use Rattle.sig_parse.proofs.sides.right_side.Goals as goal

pub returns-in_err-expression-clause-refuses : goal.returns-in_err-expression-clause-refuses
returns-in_err-expression-clause-refuses c = handed _ _ _ c.from_residual.ensures (λ few text. right_lifts c.args.depth c.args.parser.now.operators _ _ _ (c.in_err-expression.ensures.refuses few text))

pub returns-in_ok-expression-clause-settles : goal.returns-in_ok-expression-clause-settles
returns-in_ok-expression-clause-settles c = right_settles_expression c.args.depth c.args.parser.now.operators (expression_of c.in_ok-expression.field-0) c.if-begins_call.ensures (covered c.in_ok-expression.ensures.reads) c.in_ok-expression.ensures.stops

pub returns-then-begins_call-clause-refuses : goal.returns-then-begins_call-clause-refuses
returns-then-begins_call-clause-refuses c = since_refused _ _ c.call.result c.call.ensures.refuses (λ why refuses few text. refuses few c.if-begins_call.ensures text)
