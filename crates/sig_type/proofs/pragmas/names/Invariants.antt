use Rattle.sig_type.proofs.{texts, placed_twice, Finds, take, ◌++◌, ◌≡◌}
use Rattle.sig_type.proofs.pragmas.names.Given as goal

abbrev pub invariant-loop-name : goal.invariant-loop-name
invariant-loop-name l = record {
  named : l.earlier ≡ l.initial.earlier ++ texts (take l.name-index l.names);
  finds : Finds l.initial.first l.first (placed_twice l.scope l.initial.earlier (take l.name-index l.names));
}
