use Rattle.sig_load.proofs.{on_ok_weaker, behind}
use Rattle.sig_load.proofs.program.put_sample.Goals as goal

pub returns : goal.returns
returns c = on_ok_weaker c.put-5.result (λ last. behind c.in_ok-put.ensures (behind c.in_ok-put_name.ensures (behind c.in_ok-put-2.ensures (behind c.in_ok-put_before.ensures (behind c.in_ok-put-3.ensures (behind (rw c.from.ensures at c.in_ok-put_number.ensures) (behind c.in_ok-put-4.ensures (behind c.in_ok-put_name-2.ensures last)))))))) c.put-5.ensures
