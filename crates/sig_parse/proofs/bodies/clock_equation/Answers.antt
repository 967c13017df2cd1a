use Rattle.sig_parse.proofs.{expression_of, handed, fresh_refuses, fresh_settles, operands_settled, map}
use Rattle.sig_parse.proofs.bodies.clock_equation.Goals as goal

pub returns-in_err-operands-clause-refuses : goal.returns-in_err-operands-clause-refuses
returns-in_err-operands-clause-refuses c = handed _ _ _ c.from_residual.ensures (λ text. fresh_refuses c.args.parser.now c.begin_equation.ensures (c.in_err-operands.ensures.refuses text))

pub returns-clause-settles : goal.returns-clause-settles
returns-clause-settles c = fresh_settles c.args.parser.now c.begin_equation.ensures (operands_settled c.args.depth (map expression_of c.in_ok-operands.field-0.items) c.in_ok-operands.ensures.reads c.in_ok-operands.ensures.stops)
