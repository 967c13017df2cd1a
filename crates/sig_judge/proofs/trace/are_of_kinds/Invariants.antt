-- those so far are of their kinds
use Rattle.sig_judge.proofs.{map, take, Bounded, AreOfKinds, kinds_of, seen_of}
use Rattle.sig_judge.proofs.trace.are_of_kinds.Given as goal

abbrev pub invariant-loop-i : goal.invariant-loop-i
invariant-loop-i l = AreOfKinds Bounded (kinds_of (take l.i l.signals)) (map seen_of (take l.i l.seen))
