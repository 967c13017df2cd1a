use Rattle.sig_graph.proofs.{◌<◌, ℕ, List, [], ◌∷◌, ◌++◌, ◌∙◌, sym, ap, subst, take, get_or, set, length, arith, get_or_read, take_more, Adds, adds_then}
use Rattle.sig_graph.proofs.successors.add_behind.Goals as goal

pub loop-p-preserved : goal.loop-p-preserved
loop-p-preserved c =
    let numbers = c.args.predecessors.now in
    let i = c.loop-p.p-index in
    let p : ℕ = get_or c.args.predecessors.now c.loop-p.p-index 0 in
    let lists = c.loop-p.successors in
    let lt : get_or c.args.predecessors.now c.loop-p.p-index 0 < length c.args.successors.now = c.requires i 0 c.loop-p-test.true in
    let count = c.loop-p.invariant.count in
    let read = get_or_read lists p c.index-successors-p.result (omega (arith, lt, count)) c.index-successors-p.is [] in
    subst (λ (xs : List ℕ). Adds c.args.number xs c.args.successors.now (set lists p c.push.new.self)) (sym (take_more numbers i 0 c.loop-p-test.true))
    (subst (λ (list : List ℕ). Adds c.args.number (take i numbers ++ p ∷ []) c.args.successors.now (set lists p list)) (sym (c.in_ok-push.ensures ∙ ap (λ (list : List ℕ). list ++ c.args.number ∷ []) (sym c.index-successors-p.is ∙ read)))
    (adds_then c.args.number (take i numbers) c.args.successors.now lists p c.loop-p.invariant lt))
