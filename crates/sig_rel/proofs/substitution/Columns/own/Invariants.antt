use Rattle.sig_rel.proofs.{◌+◌, ◌<◌, Ok, Adds, IsUnknownWhere, classes_below, truths_below, AreVariables}
use Rattle.sig_rel.proofs.substitution.Columns.own.Given as goal

abbrev pub invariant-loop-signal : goal.invariant-loop-signal
invariant-loop-signal l = record {
  adds : Adds (classes_below l.least l.signal + truths_below l.unknowns.truth.items l.signal) l.initial.store l.store (Ok tt);
  own : AreVariables l.store.nodes (IsUnknownWhere (λ n. n < l.signal) l.least l.unknowns) l.initial.self l.self;
}
