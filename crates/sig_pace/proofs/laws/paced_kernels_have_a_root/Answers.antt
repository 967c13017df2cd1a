use Rattle.sig_pace.proofs.{has_root}
use Rattle.sig_pace.proofs.laws.paced_kernels_have_a_root.Goals as goal

pub returns-clause-root : goal.returns-clause-root
returns-clause-root c = has_root

pub returns-clause-never_missing : goal.returns-clause-never_missing
returns-clause-never_missing c = λ kernel paced least x y valid gets missing. let root = has_root kernel paced least valid gets in missing.none root.0 root.1
