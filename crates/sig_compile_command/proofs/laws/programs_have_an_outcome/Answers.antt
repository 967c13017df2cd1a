use Rattle.sig_compile_command.proofs.{any_due, any_print}
use Rattle.sig_compile_command.proofs.laws.programs_have_an_outcome.Goals as goal

pub returns-clause-compiled : goal.returns-clause-compiled
returns-clause-compiled c = λ pace held program product. any_due c.programs_have_a_verdict.ensures pace held program product

pub returns-clause-printed : goal.returns-clause-printed
returns-clause-printed c = any_print c.texts_have_a_verdict.ensures.tree
