use Rattle.std.proofs.Common.{length, ◌-◌, ◌≤◌, take}
use Rattle.sig_text.proofs.put.put_all.Given as goal

abbrev pub invariant-loop-put : goal.invariant-loop-put
invariant-loop-put g l = record {
  within : l.put ≤ length l.bytes;
  taken : g.S.Sink.took l.initial.sink (take l.put l.bytes) l.sink;
  faults : g.S.Sink.faults l.initial.sink ≤ g.S.Sink.faults l.sink;
}

abbrev pub decreases-loop-put : goal.decreases-loop-put
decreases-loop-put g l = length l.bytes - l.put
