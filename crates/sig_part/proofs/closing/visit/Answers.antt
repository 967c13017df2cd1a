use Rattle.sig_part.proofs.{List, sym, subst, take, get_or, ◌∷◌, [], take_more, SigId, Visits, is_elsewhere, visits_then}
use Rattle.sig_part.proofs.closing.visit.Goals as goal

pub loop-x-preserved : goal.loop-x-preserved
loop-x-preserved c =
    let list = c.args.list.now in
    let i = c.loop-x.x-index in
    let p = is_elsewhere c.args.signals.now c.args.actor in
    let zero_id : SigId = record { 0 = 0 } in
    subst (λ (xs : List SigId). Visits p xs c.args.marks.now c.mark.new.marks c.args.waiting.now.items c.mark.new.waiting.items) (sym (take_more list i zero_id c.loop-x-test.true))
    (visits_then p (take i list) (get_or list i zero_id ∷ []) c.args.marks.now c.loop-x.marks c.mark.new.marks c.args.waiting.now.items c.loop-x.waiting.items c.mark.new.waiting.items c.loop-x.invariant c.in_ok-mark.ensures)
