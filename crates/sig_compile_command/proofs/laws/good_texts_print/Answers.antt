use Rattle.sig_compile_command.proofs.{only_print, some_print}
use Rattle.sig_compile_command.proofs.laws.good_texts_print.Goals as goal

pub returns-clause-only : goal.returns-clause-only
returns-clause-only c = only_print

pub returns-clause-some : goal.returns-clause-some
returns-clause-some c = some_print
