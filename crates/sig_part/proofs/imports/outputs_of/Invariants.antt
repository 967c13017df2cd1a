use Rattle.sig_part.proofs.{◌<◌, ◌≤◌, ◌↔◌, Contains, SigId}
use Rattle.sig_part.proofs.imports.outputs_of.Given as goal

abbrev pub invariant-loop-number : goal.invariant-loop-number
invariant-loop-number l = (x : SigId) → Contains l.outputs.items x ↔ ((l.kernel.inputs ≤ x.0) × (x.0 < l.number))
