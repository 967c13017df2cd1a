use Rattle.sig_work.proofs.{length}
use Rattle.sig_work.proofs.workers.+with_workers.Given as goal

-- each call starts one thread
abbrev pub decreases-with_workers : goal.decreases-with_workers
decreases-with_workers g l = length l.others.items
