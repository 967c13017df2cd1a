use Rattle.sig_run_command.proofs.{end_status_is, only_end, some_run}
use Rattle.sig_run_command.proofs.laws.good_runs_end.Goals as goal

pub returns-clause-only : goal.returns-clause-only
returns-clause-only c = only_end

pub returns-clause-status : goal.returns-clause-status
returns-clause-status c = end_status_is

pub returns-clause-some : goal.returns-clause-some
returns-clause-some c = some_run
