use Rattle.sig_clock.proofs.{◌≡◌, ◌+◌, ℕ, List, ap, sym, subst, ◌∙◌, length, arith, AreJoined, related, ArePartition, first_partition, last_partition, next_partition, item_at, written}
use Rattle.sig_clock.proofs.classes.same_clock.Goals as goal

pub loop-equation-init : goal.loop-equation-init
loop-equation-init c = first_partition c.args.kernel.now c.in_ok-least.least.items _ c.in_ok-least.ensures (ap length c.as_slice.ensures)

pub loop-equation-preserved : goal.loop-equation-preserved
loop-equation-preserved c =
    let value = c.deref_mut.ensures.value in
    let count : length c.as_slice-equation-items.result.now ≡ length c.args.kernel.now.equations = ap length c.as_slice-equation-items.ensures in
    let whole = written c.loop-equation.least.len c.relate.new.least c.loop-equation.least.items (c.relate.ensures.count ∙ ap length value) (sym c.deref_mut.ensures.len ∙ ap length value) in
    subst (λ (xs : List ℕ). ArePartition c.args.kernel.now (c.loop-equation.equation-index + 1) xs) (sym whole)
    (next_partition c.args.kernel.now c.loop-equation.equation-index c.loop-equation.least.items c.relate.new.least c.equation-item.result c.loop-equation.invariant (omega arith)
    (item_at c.as_slice-equation-items.result.now c.args.kernel.now.equations c.loop-equation.equation-index c.equation-item.result c.as_slice-equation-items.ensures c.loop-equation-test.true c.equation-item.is)
    c.requires.equations.within
    (subst (λ (xs : List ℕ). AreJoined xs c.relate.new.least (related c.equation-item.result.form)) value c.relate.ensures))

pub returns : goal.returns
returns c = last_partition c.args.kernel.now c.loop-equation.equation-index c.loop-equation.least.items c.loop-equation.invariant
    (let count : length c.as_slice-equation-items.result.now ≡ length c.args.kernel.now.equations = ap length c.as_slice-equation-items.ensures in omega arith)
