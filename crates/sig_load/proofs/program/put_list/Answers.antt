use Rattle.sig_load.proofs.{listed, each_more, each_none}
use Rattle.sig_load.proofs.program.put_list.Goals as goal

pub loop-before-init : goal.loop-before-init
loop-before-init c = each_none _ (listed c.args.letter)

pub loop-before-preserved : goal.loop-before-preserved
loop-before-preserved c = each_more (listed c.args.letter) c.loop-before.before c.loop-before.invariant c.in_ok-put_listed.ensures
