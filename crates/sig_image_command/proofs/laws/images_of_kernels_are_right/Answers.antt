use Rattle.sig_image_command.proofs.{of_kernel, places_of_kernel}
use Rattle.sig_image_command.proofs.laws.images_of_kernels_are_right.Goals as goal

pub returns : goal.returns
returns c = λ bytes kernel image short accepted of few.
    of_kernel c.kernels_of_texts.ensures.names c.images_of_plans_are_right.ensures c.images_of_plans_are_sound.ensures bytes kernel image short accepted of
    (places_of_kernel c.kernels_of_texts.ensures.places bytes kernel image short accepted of) few
