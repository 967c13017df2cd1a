use Rattle.sig_rel.proofs.{◌≡◌, ℕ, map, take, slice_get, number_of}
use Rattle.sig_rel.proofs.numbering.Numbering.presences.Given as goal

abbrev pub invariant-loop-class : goal.invariant-loop-class
invariant-loop-class l = l.present.items ≡ map (λ (class : ℕ). number_of (slice_get l.self.class.items class)) (take l.class-index l.least)
