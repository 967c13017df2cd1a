use Rattle.sig_cells.proofs.{true, false, joined_node, scope_of, variable_there}
use Rattle.sig_cells.proofs.tests.joined_of.Goals as goal

pub bounds-conditions-node : goal.bounds-conditions-node
bounds-conditions-node c =
    variable_there (scope_of c.args.store.now.nodes c.args.conditions.now c.args.signals) c.in_ok-node.ensures.store.reduced c.requires.below c.args.guard c.requires.held c.requires.told
    c.in_ok-node.node c.in_ok-node.ensures.node

pub returns-in-Some : goal.returns-in-Some
returns-in-Some c =
    joined_node (scope_of c.args.store.now.nodes c.args.conditions.now c.args.signals) c.in_ok-node.ensures.store.reduced c.requires.below c.args.guard c.requires.held c.requires.told
    c.in_ok-node.node c.in_ok-node.ensures.node true c.in-Some.otherwise c.in-Some.ensures c.literal_of.result c.literal_of.ensures

pub returns-in-Some-truth_of_constant : goal.returns-in-Some-truth_of_constant
returns-in-Some-truth_of_constant c =
    joined_node (scope_of c.args.store.now.nodes c.args.conditions.now c.args.signals) c.in_ok-node.ensures.store.reduced c.requires.below c.args.guard c.requires.held c.requires.told
    c.in_ok-node.node c.in_ok-node.ensures.node false c.in-Some-truth_of_constant.otherwise c.in-Some-truth_of_constant.ensures
    c.literal_of-in-Some-truth_of_constant.result c.literal_of-in-Some-truth_of_constant.ensures
