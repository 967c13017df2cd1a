use Rattle.sig_kernel.proofs.{comes_from, goes_on}
use Rattle.sig_kernel.proofs.laws.traces_go_on_by_instants.Goals as goal

pub returns-clause-on : goal.returns-clause-on
returns-clause-on c = goes_on

pub returns-clause-back : goal.returns-clause-back
returns-clause-back c = comes_from
