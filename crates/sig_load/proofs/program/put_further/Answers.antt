use Rattle.sig_load.proofs.{further, behind, each_more, each_none}
use Rattle.sig_load.proofs.program.put_further.Goals as goal

pub loop-before-init : goal.loop-before-init
loop-before-init c = each_none _ further

pub loop-before-preserved : goal.loop-before-preserved
loop-before-preserved c = each_more further c.loop-before.before c.loop-before.invariant (behind c.in_ok-put.ensures c.in_ok-put_name.ensures)
