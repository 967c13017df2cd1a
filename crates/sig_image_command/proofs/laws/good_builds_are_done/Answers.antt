use Rattle.sig_image_command.proofs.{is_built, only_build}
use Rattle.sig_image_command.proofs.laws.good_builds_are_done.Goals as goal

pub returns-clause-only : goal.returns-clause-only
returns-clause-only c = only_build

pub returns-clause-some : goal.returns-clause-some
returns-clause-some c = is_built
