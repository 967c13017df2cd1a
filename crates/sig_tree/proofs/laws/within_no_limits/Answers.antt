use Rattle.sig_tree.proofs.{expression_unlimited, left_unlimited, right_unlimited, definition_unlimited, clock_equation_unlimited, body_unlimited, model_unlimited, program_unlimited}
use Rattle.sig_tree.proofs.laws.within_no_limits.Goals as goal

pub returns-clause-expression : goal.returns-clause-expression
returns-clause-expression c = expression_unlimited

pub returns-clause-left : goal.returns-clause-left
returns-clause-left c = left_unlimited

pub returns-clause-right : goal.returns-clause-right
returns-clause-right c = right_unlimited

pub returns-clause-definition : goal.returns-clause-definition
returns-clause-definition c = definition_unlimited

pub returns-clause-clock_equation : goal.returns-clause-clock_equation
returns-clause-clock_equation c = clock_equation_unlimited

pub returns-clause-body : goal.returns-clause-body
returns-clause-body c = body_unlimited

pub returns-clause-process : goal.returns-clause-process
returns-clause-process c = model_unlimited

pub returns-clause-program : goal.returns-clause-program
returns-clause-program c = program_unlimited
