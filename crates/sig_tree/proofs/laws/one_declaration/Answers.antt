use Rattle.sig_tree.proofs.{item_once, item_group_once, plain_group_once, item_groups_once, plain_groups_once, param_groups_once, params_once, interface_once, placement_once, pragmas_once, local_group_once}
use Rattle.sig_tree.proofs.laws.one_declaration.Goals as goal

pub returns-clause-item : goal.returns-clause-item
returns-clause-item c = item_once

pub returns-clause-group : goal.returns-clause-group
returns-clause-group c = item_group_once

pub returns-clause-plain_group : goal.returns-clause-plain_group
returns-clause-plain_group c = plain_group_once

pub returns-clause-groups : goal.returns-clause-groups
returns-clause-groups c = item_groups_once

pub returns-clause-plain_groups : goal.returns-clause-plain_groups
returns-clause-plain_groups c = plain_groups_once

pub returns-clause-param_groups : goal.returns-clause-param_groups
returns-clause-param_groups c = param_groups_once

pub returns-clause-params : goal.returns-clause-params
returns-clause-params c = params_once

pub returns-clause-interface : goal.returns-clause-interface
returns-clause-interface c = interface_once

pub returns-clause-pragma : goal.returns-clause-pragma
returns-clause-pragma c = placement_once

pub returns-clause-pragmas : goal.returns-clause-pragmas
returns-clause-pragmas c = pragmas_once

pub returns-clause-local_group : goal.returns-clause-local_group
returns-clause-local_group c = local_group_once
