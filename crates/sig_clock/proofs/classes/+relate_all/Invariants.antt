use Rattle.sig_clock.proofs.{length}
use Rattle.sig_clock.proofs.classes.+relate_all.Given as goal

abbrev pub decreases-relate_all : goal.decreases-relate_all
decreases-relate_all l = length l.operands.now
