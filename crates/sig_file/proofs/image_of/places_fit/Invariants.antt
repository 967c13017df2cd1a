use Rattle.sig_file.proofs.{All, take, HasPlace}
use Rattle.sig_file.proofs.image_of.places_fit.Given as goal

abbrev pub invariant-loop-op : goal.invariant-loop-op
invariant-loop-op l = All HasPlace (take l.op-index l.ops)
