use Rattle.sig_call.proofs.{body_within}
use Rattle.sig_call.proofs.laws.places_of_flat_bodies.Goals as goal

pub returns : goal.returns
returns c = λ text program flat is expands. body_within text is.0 program flat (c.slices_in_order.ensures.order text is.0 is.1) is.2 expands
