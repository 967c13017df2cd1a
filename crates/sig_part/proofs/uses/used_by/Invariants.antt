use Rattle.sig_part.proofs.{◌↔◌, Contains, SigId, IsUsedWithin}
use Rattle.sig_part.proofs.uses.used_by.Given as goal

abbrev pub invariant-loop-number : goal.invariant-loop-number
invariant-loop-number l = (x : SigId) → Contains l.used.items x ↔ IsUsedWithin l.ops l.needs l.cluster l.number x
