-- the inputs so far have their places
use Rattle.sig_flow.proofs.{ℕ, List, ArePlaces, get_by, nat_cmp, slice_cmp}
use Rattle.sig_flow.proofs.names.Names.of.Given as goal

abbrev pub invariant-loop-i : goal.invariant-loop-i
invariant-loop-i l = ArePlaces l.inputs l.i (λ (q : List ℕ). get_by (λ k. slice_cmp nat_cmp q k.now) l.places)
