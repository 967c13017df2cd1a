use Rattle.sig_type.proofs.{ap, [], expression_of, FormRow, bare_operands, finds_as, finds_then, finds_same}
use Rattle.sig_type.proofs.bare.+inside.Goals as goal

pub returns-in-Unary : goal.returns-in-Unary
returns-in-Unary t c = rw c.in-Unary.is (finds_then (finds_same _ (rw c.deref.ensures at c.is_bare_operand.ensures) c.ask.ensures) (rw c.deref-in-Unary.ensures at c.inside.ensures))

pub returns-in-Binary : goal.returns-in-Binary
returns-in-Binary t c = rw c.in-Binary.is (finds_then (rw c.deref-in-Binary.ensures at c.inside-in-Binary.ensures)
    (finds_then (rw (c.deref-in-Binary-2.ensures, c.deref-in-Binary-3.ensures) at (finds_as (ap (λ (r : FormRow). bare_operands r c.args.scope.now (expression_of c.deref-in-Binary-2.result.now) (expression_of c.deref-in-Binary-3.result.now) c.in-Binary.at [] []) c.binary_form.ensures) c.operands.ensures)) (rw c.deref-in-Binary-4.ensures at c.inside-in-Binary-2.ensures)))

pub returns-in-Delay : goal.returns-in-Delay
returns-in-Delay t c = rw c.in-Delay.is (finds_then (rw c.deref-in-Delay.ensures at c.inside-in-Delay.ensures) (rw (c.is_constant.ensures, c.deref-in-Delay-2.ensures) at c.ask-in-Delay.ensures))

pub returns-in-Cell : goal.returns-in-Cell
returns-in-Cell t c = rw c.in-Cell.is (finds_then (rw c.deref-in-Cell.ensures at c.inside-in-Cell.ensures)
    (finds_then (rw (c.deref-in-Cell-2.ensures, c.deref-in-Cell-3.ensures) at (finds_as (ap (λ (r : FormRow). bare_operands r c.args.scope.now (expression_of c.deref-in-Cell-2.result.now) (expression_of c.deref-in-Cell-3.result.now) c.in-Cell.at [] []) c.cell_form.ensures) c.operands-in-Cell.ensures)) (rw c.deref-in-Cell-4.ensures at c.inside-in-Cell-2.ensures)))
