use Rattle.sig_work.proofs.{HaveHandedOver}
use Rattle.sig_work.proofs.ends.LinkEnds.hand_over.Given as goal

abbrev pub invariant-loop-link : goal.invariant-loop-link
invariant-loop-link g l = record {
  handed : HaveHandedOver l.fn.self l.self;
}
