use Rattle.sig_tree.proofs.{one_body}
use Rattle.sig_tree.proofs.expansion.one_flat_body.Goals as goal

-- src/expansion.rt:9:1
pub returns : goal.returns
returns c = one_body
