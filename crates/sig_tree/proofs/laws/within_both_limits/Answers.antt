use Rattle.sig_tree.proofs.{expression_within, left_within, right_within, definition_within, clock_equation_within, body_within, bodies_within, further_bodies_within, model_within, program_within}
use Rattle.sig_tree.proofs.laws.within_both_limits.Goals as goal

pub returns-clause-expression : goal.returns-clause-expression
returns-clause-expression c = expression_within

pub returns-clause-left : goal.returns-clause-left
returns-clause-left c = left_within

pub returns-clause-right : goal.returns-clause-right
returns-clause-right c = right_within

pub returns-clause-definition : goal.returns-clause-definition
returns-clause-definition c = definition_within

pub returns-clause-clock_equation : goal.returns-clause-clock_equation
returns-clause-clock_equation c = clock_equation_within

pub returns-clause-body : goal.returns-clause-body
returns-clause-body c = body_within

pub returns-clause-bodies : goal.returns-clause-bodies
returns-clause-bodies c = bodies_within

pub returns-clause-further_bodies : goal.returns-clause-further_bodies
returns-clause-further_bodies c = further_bodies_within

pub returns-clause-process : goal.returns-clause-process
returns-clause-process c = model_within

pub returns-clause-program : goal.returns-clause-program
returns-clause-program c = program_within
