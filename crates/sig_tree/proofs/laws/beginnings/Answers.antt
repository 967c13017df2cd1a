use Rattle.sig_tree.proofs.{IsPlainItem, IsItem, constant_begins, expression_begins, left_begins, right_begins, definition_begins, clock_equation_begins, body_begins, group_begins, placement_begins, model_begins, program_begins}
use Rattle.sig_tree.proofs.laws.beginnings.Goals as goal

pub returns-clause-constant : goal.returns-clause-constant
returns-clause-constant c = constant_begins

pub returns-clause-expression : goal.returns-clause-expression
returns-clause-expression c = expression_begins

pub returns-clause-left : goal.returns-clause-left
returns-clause-left c = left_begins

pub returns-clause-right : goal.returns-clause-right
returns-clause-right c = right_begins

pub returns-clause-definition : goal.returns-clause-definition
returns-clause-definition c = definition_begins

pub returns-clause-clock_equation : goal.returns-clause-clock_equation
returns-clause-clock_equation c = clock_equation_begins

pub returns-clause-body : goal.returns-clause-body
returns-clause-body c = body_begins

pub returns-clause-group : goal.returns-clause-group
returns-clause-group c = group_begins IsItem

pub returns-clause-plain_group : goal.returns-clause-plain_group
returns-clause-plain_group c = group_begins IsPlainItem

pub returns-clause-pragma : goal.returns-clause-pragma
returns-clause-pragma c = placement_begins

pub returns-clause-process : goal.returns-clause-process
returns-clause-process c = model_begins

pub returns-clause-program : goal.returns-clause-program
returns-clause-program c = program_begins
