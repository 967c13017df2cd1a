use Rattle.sig_part.proofs.{◌≡◌, ◌+◌, ◌≤◌, ℕ, sym, subst, arith, AreFromTo, from_to_more, from_to_none}
use Rattle.sig_part.proofs.imports.outputs_of.Goals as goal

pub loop-number-init : goal.loop-number-init
loop-number-init c = subst (AreFromTo c.args.kernel.now.inputs c.args.kernel.now.inputs) (sym c.new-outputs.ensures.items) (from_to_none c.args.kernel.now.inputs)

pub loop-number-preserved : goal.loop-number-preserved
loop-number-preserved c =
    subst (AreFromTo c.args.kernel.now.inputs (c.loop-number.number + 1)) (sym c.in_ok-push.ensures.items)
    (from_to_more c.args.kernel.now.inputs c.loop-number.number c.loop-number.outputs.items c.loop-number.auto.number c.loop-number.invariant)

pub returns : goal.returns
returns c =
    let kernel = c.args.kernel.now in
    let last = c.loop-number-test.false in
    let most : c.loop-number.number ≤ kernel.inputs + kernel.outputs = c.loop-number.auto.number-end (omega arith) in
    let same : c.loop-number.number ≡ kernel.inputs + kernel.outputs = omega (arith, last, most) in
    subst (λ (n : ℕ). AreFromTo kernel.inputs n c.loop-number.outputs.items) same c.loop-number.invariant
