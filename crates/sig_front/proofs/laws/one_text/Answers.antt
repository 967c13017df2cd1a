use Rattle.sig_front.proofs.{tree_once, refusal_once, tree_or_refusal}
use Rattle.sig_front.proofs.laws.one_text.Goals as goal

pub returns-clause-tree : goal.returns-clause-tree
returns-clause-tree c = tree_once

pub returns-clause-refusal : goal.returns-clause-refusal
returns-clause-refusal c = refusal_once

pub returns-clause-apart : goal.returns-clause-apart
returns-clause-apart c = tree_or_refusal
