use Rattle.sig_graph.proofs.{ℕ, List, sym, subst, take, get_or, ◌∷◌, [], take_more, Visits, visits_then}
use Rattle.sig_graph.proofs.cycles.visit.Goals as goal

pub loop-number-preserved : goal.loop-number-preserved
loop-number-preserved c =
    let numbers = c.args.numbers.now in
    let i = c.loop-number.number-index in
    subst (λ (xs : List ℕ). Visits xs c.args.marks.now c.mark.new.marks c.args.waiting.now.items c.mark.new.waiting.items) (sym (take_more numbers i 0 c.loop-number-test.true))
    (visits_then (take i numbers) (get_or numbers i 0 ∷ []) c.args.marks.now c.loop-number.marks c.mark.new.marks c.args.waiting.now.items c.loop-number.waiting.items c.mark.new.waiting.items c.loop-number.invariant c.in_ok-mark.ensures)
