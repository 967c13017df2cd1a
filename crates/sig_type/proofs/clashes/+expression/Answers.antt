use Rattle.sig_type.proofs.{finds_then, finds_same, finds_later, refused_one, refused_two}
use Rattle.sig_type.proofs.clashes.+expression.Goals as goal

pub returns-in-Unary-clause-clashes : goal.returns-in-Unary-clause-clashes
returns-in-Unary-clause-clashes t c = rw (c.in-Unary.is, ← c.deref.ensures)
    (finds_then (finds_same _ (refused_one _ _ _ _ _ c.refuses_one.ensures c.unary_form-form.ensures c.expression-kind.ensures.kind) c.ask.ensures)
    (finds_later c.new-inside.ensures c.expression-kind.ensures.clashes c.append.ensures))

pub returns-in-Binary-clause-clashes : goal.returns-in-Binary-clause-clashes
returns-in-Binary-clause-clashes t c = rw (c.in-Binary.is, ← c.deref-in-Binary.ensures, ← c.deref-in-Binary-2.ensures)
    (finds_then c.expression-left_kind.ensures.clashes
    (finds_then (finds_same _ (refused_two _ _ _ _ _ _ _ c.refuses_two.ensures c.binary_form-form.ensures c.expression-left_kind.ensures.kind c.expression-right_kind.ensures.kind) c.ask-in-Binary.ensures)
    (finds_later c.new-inside-in-Binary.ensures c.expression-right_kind.ensures.clashes c.append-in-Binary.ensures)))

pub returns-in-Delay-clause-clashes : goal.returns-in-Delay-clause-clashes
returns-in-Delay-clause-clashes t c = rw (c.in-Delay.is, ← c.deref-in-Delay.ensures)
    (finds_then c.expression-kind-in-Delay.ensures.clashes (rw c.expression-kind-in-Delay.ensures.kind at c.init.ensures))

pub returns-in-Cell-clause-clashes : goal.returns-in-Cell-clause-clashes
returns-in-Cell-clause-clashes t c = rw (c.in-Cell.is, ← c.deref-in-Cell.ensures, ← c.deref-in-Cell-2.ensures)
    (finds_then c.expression-kind-in-Cell.ensures.clashes
    (finds_then (finds_same _ (refused_two _ _ _ _ _ _ _ c.refuses_two-in-Cell.ensures c.cell_form-form.ensures c.expression-kind-in-Cell.ensures.kind c.expression-held_kind.ensures.kind) c.ask-in-Cell.ensures)
    (finds_then (finds_later c.new-inside-in-Cell.ensures c.expression-held_kind.ensures.clashes c.append-in-Cell.ensures)
    (rw (c.kind_of_one-in-Cell.ensures, c.delay_form-in-Cell.ensures, c.expression-kind-in-Cell.ensures.kind) at c.constant.ensures))))
