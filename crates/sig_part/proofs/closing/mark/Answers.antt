use Rattle.sig_part.proofs.{◌∙◌, ◌∷◌, [], List, sym, subst, set, true, SigId, Visits, is_elsewhere, elsewhere_below, visits_new}
use Rattle.sig_part.proofs.closing.mark.Goals as goal

pub returns : goal.returns
returns c =
    let signals = c.args.signals.now in
    let x = c.args.x in
    let passes = sym c.is_elsewhere.ensures ∙ c.if-not-is_elsewhere.false in
    subst (λ (waiting : List SigId). Visits (is_elsewhere signals c.args.actor) (x ∷ []) c.args.marks.now (set c.args.marks.now x.0 true) c.args.waiting.now.items waiting) (sym c.in_ok-push.ensures.items)
    (visits_new (is_elsewhere signals c.args.actor) x c.args.marks.now c.args.waiting.now.items passes (elsewhere_below signals c.args.actor x c.args.marks.now c.requires passes) c.if-marks-number.false)
