-- the bytes so far are added
use Rattle.sig_load.proofs.{sum, take, RoseBy}
use Rattle.sig_load.proofs.tally.added.Given as goal

abbrev pub invariant-loop-byte : goal.invariant-loop-byte
invariant-loop-byte l = RoseBy l.start (sum (take l.byte-index l.bytes)) l.total
