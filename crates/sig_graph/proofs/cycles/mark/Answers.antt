use Rattle.sig_graph.proofs.{ℕ, List, sym, subst, set, true, Visits, ◌∷◌, [], visits_new}
use Rattle.sig_graph.proofs.cycles.mark.Goals as goal

pub returns : goal.returns
returns c =
    subst (λ (waiting : List ℕ). Visits (c.args.number ∷ []) c.args.marks.now (set c.args.marks.now c.args.number true) c.args.waiting.now.items waiting) (sym c.in_ok-push.ensures.items)
    (visits_new c.args.number c.args.marks.now c.args.waiting.now.items c.requires c.if-marks-number.false)
