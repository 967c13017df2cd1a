use Rattle.sig_rel.proofs.{◌≡◌, List, Some, length, refl, ap, subst, arith, slice_get, slice_get_read, Equation, counted_rows, left_rows, left_rows_more}
use Rattle.sig_rel.proofs.firsts.without_unexcused.Goals as goal

pub loop-equation-init : goal.loop-equation-init
loop-equation-init c = left_rows c.args.kernel.now c.args.least.now c.args.firsts.now c.requires

pub loop-equation-preserved : goal.loop-equation-preserved
loop-equation-preserved c =
    let kernel = c.args.kernel.now in
    let at = c.loop-equation in
    let equation = c.equation-item.result in
    let there : slice_get kernel.equations at.equation-index ≡ Some equation =
    subst (λ (xs : List Equation). slice_get xs at.equation-index ≡ Some equation) c.as_slice-equation-items.ensures
    (slice_get_read c.as_slice-equation-items.result.now (length c.as_slice-equation-items.result.now) at.equation-index equation refl c.loop-equation-test.true c.equation-item.is) in
    left_rows_more kernel.equations c.args.least.now (length kernel.signals) at.equation-index equation at.firsts c.drop_unexcused.new.counted there at.invariant c.drop_unexcused.ensures.count c.drop_unexcused.ensures.each

pub returns : goal.returns
returns c =
    counted_rows c.args.kernel.now c.args.least.now c.loop-equation.equation-index c.loop-equation.firsts
    (let long = ap length c.as_slice-equation-items.ensures in let t = c.loop-equation-test.false in omega (arith, long, t)) c.loop-equation.invariant
