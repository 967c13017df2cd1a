use Rattle.sig_type.proofs.{texts, bad_pragmas_of, placement_of, names_placed, Finds, map, take, [], ◌≡◌}
use Rattle.sig_type.proofs.pragmas.bad_pragmas.Given as goal

abbrev pub invariant-loop-pragma : goal.invariant-loop-pragma
invariant-loop-pragma l = record {
  named : l.earlier ≡ texts (names_placed (map placement_of (take l.pragma-index l.pragmas)));
  finds : Finds l.initial.first l.first (bad_pragmas_of l.scope [] (map placement_of (take l.pragma-index l.pragmas)));
}
