use Rattle.sig_machine.proofs.{◌<◌, ◌∙◌, ℕ, ℤ, List, length, arith, subst, sym, with_items_is, AreKept, ActorMachine, keeps_own}
use Rattle.sig_machine.proofs.actor.ActorMachine.keep_own.Goals as goal

pub returns-clause-kept : goal.returns-clause-kept
returns-clause-kept c =
    let old : ActorMachine = c.args.self.now in
    let all = c.len.ensures in
    let last = c.len-2.ensures in
    let most_all = c.least-most.ensures.left in
    let most_last = c.least-most.ensures.right in
    let head = c.least-head.ensures.right in
    let end = c.least-end.ensures.right in
    let most : (n : ℕ) → n < length old.machine.cells.items → n < length old.last.items → n < c.least-most.result =
    λ n below below_last. c.least-most.ensures.greatest n (omega (arith, below, all)) (omega (arith, below_last, last)) in
    let one : AreKept 0 c.least-head.result old.machine.cells.items old.last.items c.keep_cells.new.cells c.keep_cells.new.last =
    subst (λ (xs : List ℤ). AreKept 0 c.least-head.result xs old.last.items c.keep_cells.new.cells c.keep_cells.new.last) c.as_mut_slice-cells.ensures.value
    (subst (λ (xs : List ℤ). AreKept 0 c.least-head.result c.as_mut_slice-cells.result.now xs c.keep_cells.new.cells c.keep_cells.new.last) c.as_mut_slice-last.ensures.value c.keep_cells.ensures) in
    keeps_own old c.least-head.result c.greatest-first.result c.least-end.result c.keep_cells.new.cells c.keep_cells.new.last c.keep_cells-2.new.cells c.keep_cells-2.new.last
    one c.keep_cells-2.ensures c.least-head.ensures.left (omega (arith, head, most_all, all)) (omega (arith, head, most_last, last))
    (λ n before below below_last. c.least-head.ensures.greatest n before (most n below below_last))
    c.greatest-first.ensures.left c.greatest-first.ensures.right c.greatest-first.ensures.least
    c.least-end.ensures.left (omega (arith, end, most_all, all)) (omega (arith, end, most_last, last))
    (λ n before below below_last. c.least-end.ensures.greatest n before (most n below below_last)) _
    (with_items_is old.machine.cells c.keep_cells-2.new.cells (c.keep_cells-2.ensures.count ∙ one.count ∙ sym old.machine.cells.ok.0))
    (with_items_is old.last c.keep_cells-2.new.last (c.keep_cells-2.ensures.kept_count ∙ one.kept_count ∙ sym old.last.ok.0))
