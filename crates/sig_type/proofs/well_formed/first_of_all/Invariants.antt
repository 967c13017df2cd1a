use Rattle.sig_type.proofs.{each, behind, texts, name_of, rules_at, Finds, interface_models, map, take, [], ◌≡◌}
use Rattle.sig_type.proofs.well_formed.first_of_all.Given as goal

abbrev pub invariant-loop-place : goal.invariant-loop-place
invariant-loop-place l = record {
  named : l.earlier ≡ texts (map name_of (take l.place (interface_models l.processes.interfaces.items)));
  finds : Finds l.initial.first l.first (each (rules_at (interface_models l.processes.interfaces.items)) (behind [] (take l.place (interface_models l.processes.interfaces.items))));
}
