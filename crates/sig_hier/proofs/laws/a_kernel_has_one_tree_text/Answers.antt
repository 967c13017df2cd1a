use Rattle.sig_hier.proofs.{tree_text_once}
use Rattle.sig_hier.proofs.laws.a_kernel_has_one_tree_text.Goals as goal

pub returns : goal.returns
returns c = tree_text_once
