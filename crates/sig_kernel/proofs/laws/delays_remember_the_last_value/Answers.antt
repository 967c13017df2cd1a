use Rattle.sig_kernel.proofs.{present_leaves, reduced_leaves, silent_leaves}
use Rattle.sig_kernel.proofs.laws.delays_remember_the_last_value.Goals as goal

pub returns-clause-present : goal.returns-clause-present
returns-clause-present c = present_leaves

pub returns-clause-silent : goal.returns-clause-silent
returns-clause-silent c = silent_leaves

pub returns-clause-reduced : goal.returns-clause-reduced
returns-clause-reduced c = reduced_leaves
