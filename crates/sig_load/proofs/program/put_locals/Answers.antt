use Rattle.sig_load.proofs.{on_ok_weaker, behind}
use Rattle.sig_load.proofs.program.put_locals.Goals as goal

pub returns : goal.returns
returns c = on_ok_weaker c.put-2.result (λ last. behind c.in_ok-put.ensures (behind c.in_ok-put_list.ensures (behind c.in_ok-put_further.ensures last))) c.put-2.ensures
