use Rattle.sig_work.proofs.{AreLeft, AreSettledBelow, From}
use Rattle.sig_work.proofs.settling.settle_all.Given as goal

abbrev pub invariant-loop-number : goal.invariant-loop-number
invariant-loop-number g l = record {
  left : AreLeft (From l.number) (From l.number) l.fn.shares l.shares;
  settled : AreSettledBelow l.number l.links l.fn.shares;
}
