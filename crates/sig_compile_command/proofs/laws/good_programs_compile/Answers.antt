use Rattle.sig_compile_command.proofs.{IsDueOf, done_status, one_compile_outcome, only_text, some_due}
use Rattle.sig_compile_command.proofs.laws.good_programs_compile.Goals as goal

pub returns-clause-only : goal.returns-clause-only
returns-clause-only c = λ pace held program can product. only_text held program pace can (IsDueOf product)

pub returns-clause-status : goal.returns-clause-status
returns-clause-status c = λ pace held program can product. done_status held program pace can (IsDueOf product)

pub returns-clause-some : goal.returns-clause-some
returns-clause-some c = λ pace held program. some_due held program pace

pub returns-clause-one : goal.returns-clause-one
returns-clause-one c = λ pace held program product. one_compile_outcome product pace program held
