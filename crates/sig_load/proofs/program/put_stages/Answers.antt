use Rattle.sig_load.proofs.{stage, each_more, each_none}
use Rattle.sig_load.proofs.program.put_stages.Goals as goal

pub loop-before-init : goal.loop-before-init
loop-before-init c = each_none _ stage

pub loop-before-preserved : goal.loop-before-preserved
loop-before-preserved c = each_more stage c.loop-before.before c.loop-before.invariant c.in_ok-put_stage.ensures
