use Rattle.sig_type.proofs.{names_in, map, take, ◌++◌, ◌≡◌}
use Rattle.sig_type.proofs.left_sides.add_names.Given as goal

abbrev pub invariant-loop-name : goal.invariant-loop-name
invariant-loop-name l = names_in l.all.items ≡ names_in l.initial.all.items ++ map (λ n. n) (take l.name-index l.names)
