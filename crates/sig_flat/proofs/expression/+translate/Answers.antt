use Rattle.sig_flat.proofs.{arith, common_steps, flat_expression_of, left_of, binary_is, cell_no_less, IfOk-weaker}
use Rattle.sig_flat.proofs.expression.+translate.Goals as goal

pub returns-in_ok-v-in-Binary-clause-made : goal.returns-in_ok-v-in-Binary-clause-made
returns-in_ok-v-in-Binary-clause-made t c =
    rw c.in-Binary.is (IfOk-weaker c.binary.result _ _ (λ term made. binary_is (left_of c.args.left) c.args.site.now c.in-Binary.op c.in-Binary.first.value c.in-Binary.second.value c.deref-in-Binary.result.now c.deref-in-Binary-2.result.now c.in-Binary.at
    c.in_ok-u-in-Binary.u c.in_ok-v-in-Binary.v _ _ _ _ c.deref-in-Binary.ensures c.deref-in-Binary-2.ensures c.in_ok-u-in-Binary.ensures.made c.in_ok-v-in-Binary.ensures.made made) c.binary.ensures.made)

pub returns-in_err-x-in-Cell-clause-refused : goal.returns-in_err-x-in-Cell-clause-refused
returns-in_err-x-in-Cell-clause-refused t c =
    let below = cell_no_less (left_of c.args.left) c.args.site.now (flat_expression_of c.in-Cell.operand.value) (flat_expression_of c.in-Cell.held.value) c.in-Cell.init c.in-Cell.at c.args.draft.now in
    rw c.in-Cell.is (grind (arith, common_steps, below, c.deref-in-Cell.ensures))
