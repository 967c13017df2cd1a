use Rattle.sig_doing_laws.proofs.{fault_end}
use Rattle.sig_doing_laws.proofs.laws.faults_end_runs.Goals as goal

pub returns : goal.returns
returns c = λ plan accepted flows fit limit trace lt instant actor amid op stands ready cause fails.
    fault_end plan accepted flows fit trace instant actor amid op stands ready cause fails limit lt
