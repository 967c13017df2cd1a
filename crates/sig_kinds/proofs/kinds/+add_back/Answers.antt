use Rattle.sig_kinds.proofs.{ap, kind_of, Expression, Binary, Cell, expression_of, behind_two, on_added, kind_of_both, known, nodes}
use Rattle.sig_kinds.proofs.kinds.+add_back.Goals as goal

pub returns-in_ok-first-in-Binary-clause-added : goal.returns-in_ok-first-in-Binary-clause-added
returns-in_ok-first-in-Binary-clause-added t c =
    let left : Expression = expression_of c.deref-in-Binary-2.result.now in
    let right : Expression = expression_of c.deref-in-Binary.result.now in
    rw (c.in-Binary.is, ← c.deref-in-Binary.ensures, ← c.deref-in-Binary-2.ensures)
    (on_added c.add-in-Binary.result c.add-in-Binary.new.all.items _ _
    (λ added. behind_two (λ (n : Expression). known (kind_of c.args.scope.now n)) c.args.all.now.items _ _ _ (Binary c.in-Binary.op left right c.in-Binary.field-3) (nodes left) (nodes right) _ c.in_ok-second-in-Binary.ensures.added c.in_ok-first-in-Binary.ensures.added added
    (ap known (kind_of_both _ _ _ _ _ _ _ c.kind_of_two.ensures c.binary_form.ensures c.in_ok-first-in-Binary.ensures.kind c.in_ok-second-in-Binary.ensures.kind))) c.add-in-Binary.ensures.added)

pub returns-in_ok-first-in-Cell-clause-added : goal.returns-in_ok-first-in-Cell-clause-added
returns-in_ok-first-in-Cell-clause-added t c =
    let operand : Expression = expression_of c.deref-in-Cell-2.result.now in
    let held : Expression = expression_of c.deref-in-Cell.result.now in
    rw (c.in-Cell.is, ← c.deref-in-Cell.ensures, ← c.deref-in-Cell-2.ensures)
    (on_added c.add-in-Cell.result c.add-in-Cell.new.all.items _ _
    (λ added. behind_two (λ (n : Expression). known (kind_of c.args.scope.now n)) c.args.all.now.items _ _ _ (Cell operand held c.in-Cell.field-2 c.in-Cell.field-3) (nodes operand) (nodes held) _ c.in_ok-second-in-Cell.ensures.added c.in_ok-first-in-Cell.ensures.added added
    (ap known (kind_of_both _ _ _ _ _ _ _ c.kind_of_two-in-Cell.ensures c.cell_form.ensures c.in_ok-first-in-Cell.ensures.kind c.in_ok-second-in-Cell.ensures.kind))) c.add-in-Cell.ensures.added)
