use Rattle.sig_image_command.proofs.{exec_status_is, only_exec, some_exec}
use Rattle.sig_image_command.proofs.laws.good_execs_end.Goals as goal

pub returns-clause-only : goal.returns-clause-only
returns-clause-only c = only_exec

pub returns-clause-status : goal.returns-clause-status
returns-clause-status c = exec_status_is

pub returns-clause-some : goal.returns-clause-some
returns-clause-some c = λ held file flows settings can. some_exec held file flows settings can.image can.sound
