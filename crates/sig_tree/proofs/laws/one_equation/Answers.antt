use Rattle.sig_tree.proofs.{name_once, left_once, constants_once, arguments_once, right_once, definition_once, clock_equation_once, body_once, bodies_once, further_bodies_once}
use Rattle.sig_tree.proofs.laws.one_equation.Goals as goal

pub returns-clause-name : goal.returns-clause-name
returns-clause-name c = name_once

pub returns-clause-left : goal.returns-clause-left
returns-clause-left c = left_once

pub returns-clause-constants : goal.returns-clause-constants
returns-clause-constants c = constants_once

pub returns-clause-arguments : goal.returns-clause-arguments
returns-clause-arguments c = arguments_once

pub returns-clause-right : goal.returns-clause-right
returns-clause-right c = right_once

pub returns-clause-definition : goal.returns-clause-definition
returns-clause-definition c = definition_once

pub returns-clause-clock_equation : goal.returns-clause-clock_equation
returns-clause-clock_equation c = clock_equation_once

pub returns-clause-body : goal.returns-clause-body
returns-clause-body c = body_once

pub returns-clause-bodies : goal.returns-clause-bodies
returns-clause-bodies c = bodies_once

pub returns-clause-further_bodies : goal.returns-clause-further_bodies
returns-clause-further_bodies c = further_bodies_once
