use Rattle.sig_rel.proofs.{◌≡◌, map, take, slice_get, SigId, number_of}
use Rattle.sig_rel.proofs.general.proposals_of.Given as goal

abbrev pub invariant-loop-condition : goal.invariant-loop-condition
invariant-loop-condition l = l.proposals.items ≡ map (λ (condition : SigId). number_of (slice_get l.unknowns.truth.items condition.0)) (take l.condition-index l.conditions)
