use Rattle.sig_parse.proofs.{right_side_of, definition, handed, covered, definition_left, definition_define, definition_right, definition_settled, fresh_refuses, fresh_settles, fresh_none, arith, ◌≡◌}
use Rattle.sig_parse.proofs.bodies.definition.Goals as goal

pub returns-clause-reads : goal.returns-clause-reads
returns-clause-reads c = definition c.in_ok-names.names.items (right_side_of c.in_ok-right.right) c.args.depth c.in_ok-_defines._defines c.args.parser.now c.begin_equation.ensures
    c.in_ok-names.ensures.reads c.in_ok-_defines.ensures.reads c.in_ok-right.ensures.reads

pub returns-in_err-names-clause-refuses : goal.returns-in_err-names-clause-refuses
returns-in_err-names-clause-refuses c = handed _ _ _ c.from_residual.ensures (λ text. fresh_refuses c.args.parser.now c.begin_equation.ensures (definition_left c.args.depth (c.in_err-names.ensures.refuses text)))

pub returns-in_err-_defines-clause-refuses : goal.returns-in_err-_defines-clause-refuses
returns-in_err-_defines-clause-refuses c = handed _ _ _ c.from_residual-in_err-_defines.ensures (λ text. fresh_refuses c.args.parser.now c.begin_equation.ensures (definition_define c.args.depth c.in_ok-names.names.items (covered c.in_ok-names.ensures.reads) (c.in_err-_defines.ensures.refuses text)))

pub returns-in_err-right-clause-refuses : goal.returns-in_err-right-clause-refuses
returns-in_err-right-clause-refuses c = handed _ _ _ c.from_residual-in_err-right.ensures (λ text. let none : c.expect.new.self.operators ≡ 0 = (omega (arith, fresh_none c.args.parser.now c.begin_equation.ensures, c.in_ok-names.ensures.reads.counted, c.in_ok-_defines.ensures.reads.counted)) in fresh_refuses c.args.parser.now c.begin_equation.ensures (definition_right c.args.depth c.in_ok-names.names.items (covered c.in_ok-names.ensures.reads) c.in_ok-_defines._defines _ (covered c.in_ok-_defines.ensures.reads) none (c.in_err-right.ensures.refuses (omega arith) text)))

pub returns-clause-settles : goal.returns-clause-settles
returns-clause-settles c = let none : c.expect.new.self.operators ≡ 0 = (omega (arith, fresh_none c.args.parser.now c.begin_equation.ensures, c.in_ok-names.ensures.reads.counted, c.in_ok-_defines.ensures.reads.counted)) in fresh_settles c.args.parser.now c.begin_equation.ensures (definition_settled c.args.depth c.in_ok-names.names.items (covered c.in_ok-names.ensures.reads) c.in_ok-_defines._defines _ (covered c.in_ok-_defines.ensures.reads) none c.in_ok-right.ensures.settles)
