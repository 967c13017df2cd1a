use Rattle.sig_exec.proofs.{some_run, one_run, run_within}
use Rattle.sig_exec.proofs.laws.images_have_one_run.Goals as goal

pub returns-clause-one : goal.returns-clause-one
returns-clause-one c = one_run

pub returns-clause-some : goal.returns-clause-some
returns-clause-some c = λ image flows limit right sound fit. some_run image right sound flows limit fit.count

pub returns-clause-within : goal.returns-clause-within
returns-clause-within c = run_within
