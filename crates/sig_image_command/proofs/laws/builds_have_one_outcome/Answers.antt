use Rattle.sig_image_command.proofs.{any_build, some_build, one_build_outcome}
use Rattle.sig_image_command.proofs.laws.builds_have_one_outcome.Goals as goal

pub returns-clause-every : goal.returns-clause-every
returns-clause-every c = λ held program. any_build held program c.programs_have_a_verdict.ensures

pub returns-clause-some : goal.returns-clause-some
returns-clause-some c = some_build

pub returns-clause-one : goal.returns-clause-one
returns-clause-one c = λ held program. one_build_outcome program held
