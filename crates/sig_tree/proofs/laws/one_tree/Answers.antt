use Rattle.sig_tree.proofs.{both_limits, no_limits, tree_once}
use Rattle.sig_tree.proofs.laws.one_tree.Goals as goal

pub returns-clause-tree : goal.returns-clause-tree
returns-clause-tree c = tree_once both_limits

pub returns-clause-sentence : goal.returns-clause-sentence
returns-clause-sentence c = tree_once no_limits
