use Rattle.sig_exec.proofs.{committed_kinds}
use Rattle.sig_exec.proofs.laws.committed_values_have_kinds.Goals as goal

pub returns : goal.returns
returns c = committed_kinds
