use Rattle.sig_front.proofs.{some_text, some_flat, some_kernel, names_differ}
use Rattle.sig_front.proofs.laws.texts_have_a_verdict.Goals as goal

pub returns-clause-tree : goal.returns-clause-tree
returns-clause-tree c = some_text

pub returns-clause-flat : goal.returns-clause-flat
returns-clause-flat c = some_flat c.trees_of_texts.ensures.tree

pub returns-clause-kernel : goal.returns-clause-kernel
returns-clause-kernel c = some_kernel c.trees_of_texts.ensures.tree

pub returns-clause-names : goal.returns-clause-names
returns-clause-names c = names_differ c.names_of_flat_bodies.ensures.differ
