use Rattle.sig_rel.proofs.{IsPlaced, unmarked}
use Rattle.sig_rel.proofs.placing.Placed.place_all.Given as goal

abbrev pub invariant-loop-element : goal.invariant-loop-element
invariant-loop-element l = IsPlaced l.kernel l.rules l.self

abbrev pub decreases-loop-element : goal.decreases-loop-element
decreases-loop-element l = unmarked l.self
