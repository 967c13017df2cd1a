use Rattle.sig_code.proofs.{step_text, lines_more}
use Rattle.sig_code.proofs.text.put_steps.Goals as goal

pub loop-index-preserved : goal.loop-index-preserved
loop-index-preserved c =
    lines_more (step_text c.args.kernel.now c.args.ops.now) c.args.text.now.items c.loop-index.text.items c.put_step.new.text.items c.args.steps.now c.loop-index.index _
    c.loop-index-test.true c.loop-index.invariant c.in_ok-put_step.ensures
