use Rattle.sig_print.proofs.{both_limits, leaves_of, IsModel, unplaced_model, canonical_text, place_each, place_model, placed_some}
use Rattle.sig_print.proofs.laws.round_trip.Goals as goal

pub returns : goal.returns
returns c = λ text processes is.
    let t = c.canonical_leaves.ensures text processes is in
    let r = place_each (λ p. IsModel both_limits p 0) unplaced_model (λ p new h. place_model both_limits p 0 new h) processes (leaves_of (canonical_text processes) t.0) t.2.1 in
    (r.0, (t.0, t.1, (placed_some processes r.0 r.1 t.2.0, r.2)), r.1)
