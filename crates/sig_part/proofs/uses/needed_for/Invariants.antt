use Rattle.sig_part.proofs.{◌↔◌, Contains, SigId, IsNeededWithin}
use Rattle.sig_part.proofs.uses.needed_for.Given as goal

abbrev pub invariant-loop-number : goal.invariant-loop-number
invariant-loop-number l = (x : SigId) → Contains l.needed.items x ↔ IsNeededWithin l.ops l.needs l.x l.number x
