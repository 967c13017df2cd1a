use Rattle.sig_print.proofs.{ap, ◌∙◌, unplaced, canonical_text}
use Rattle.sig_print.proofs.laws.no_other_program.Goals as goal

-- src/laws.rt:54:1
pub returns : goal.returns
returns c = λ text processes others is canonical.
    let r = c.round_trip.ensures text processes is in
    ap unplaced (c.one_program.ensures (canonical_text processes) others r.0 canonical r.1) ∙ r.2
