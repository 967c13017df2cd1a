use Rattle.sig_machine.proofs.{◌∙◌, ap, false, replicate, arith, all_false, one_more_false}
use Rattle.sig_machine.proofs.truths.forget.Goals as goal

pub loop-i-preserved : goal.loop-i-preserved
loop-i-preserved c = one_more_false c.loop-i.truths c.loop-i.i (omega arith) c.loop-i.invariant

pub returns : goal.returns
returns c =
    all_false c.loop-i.truths (λ k below. c.loop-i.invariant k (omega (arith, below, c.loop-i-test.false, c.loop-i.auto.truths)))
    ∙ ap (λ n. replicate n false) c.loop-i.auto.truths
