use Rattle.sig_flat.proofs.{IsTrue, places_kept}
use Rattle.sig_flat.proofs.laws.kernels_keep_places.Goals as goal

pub returns : goal.returns
returns c = λ holds flat at. places_kept (λ place. IsTrue (holds place)) flat at
