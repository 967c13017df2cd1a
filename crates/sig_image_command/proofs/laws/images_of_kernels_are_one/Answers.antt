use Rattle.sig_image_command.proofs.{image_once, some_image}
use Rattle.sig_image_command.proofs.laws.images_of_kernels_are_one.Goals as goal

pub returns-clause-some : goal.returns-clause-some
returns-clause-some c = some_image

pub returns-clause-one : goal.returns-clause-one
returns-clause-one c = image_once
