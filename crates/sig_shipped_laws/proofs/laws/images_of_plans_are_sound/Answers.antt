use Rattle.sig_shipped_laws.proofs.{sound}
use Rattle.sig_shipped_laws.proofs.laws.images_of_plans_are_sound.Goals as goal

pub returns : goal.returns
returns c = sound
