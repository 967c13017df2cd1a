use Rattle.sig_doing_laws.proofs.{limit_end}
use Rattle.sig_doing_laws.proofs.laws.limits_end_runs.Goals as goal

pub returns : goal.returns
returns c = λ plan accepted flows fit limit trace is. limit_end plan accepted flows fit trace is limit
