use Rattle.sig_tree.proofs.{constant_once, init_once, optional_init_once, expression_once}
use Rattle.sig_tree.proofs.laws.one_expression.Goals as goal

pub returns-clause-constant : goal.returns-clause-constant
returns-clause-constant c = constant_once

pub returns-clause-init : goal.returns-clause-init
returns-clause-init c = init_once

pub returns-clause-optional_init : goal.returns-clause-optional_init
returns-clause-optional_init c = optional_init_once

pub returns-clause-expression : goal.returns-clause-expression
returns-clause-expression c = expression_once
