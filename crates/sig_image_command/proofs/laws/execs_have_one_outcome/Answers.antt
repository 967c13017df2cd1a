use Rattle.sig_image_command.proofs.{any_exec, some_exec, one_exec_outcome}
use Rattle.sig_image_command.proofs.laws.execs_have_one_outcome.Goals as goal

pub returns-clause-every : goal.returns-clause-every
returns-clause-every c = any_exec

pub returns-clause-some : goal.returns-clause-some
returns-clause-some c = some_exec

pub returns-clause-one : goal.returns-clause-one
returns-clause-one c = λ held file flows settings. one_exec_outcome file flows settings held
