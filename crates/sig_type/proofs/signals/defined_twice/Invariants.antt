use Rattle.sig_type.proofs.{DefinedTwice, texts, repeated, Finds, map, take, ◌≡◌}
use Rattle.sig_type.proofs.signals.defined_twice.Given as goal

abbrev pub invariant-loop-name : goal.invariant-loop-name
invariant-loop-name l = (l.earlier ≡ texts (map (λ n. n.now) (take l.name-index l.left_sides))) × (Finds l.initial.first l.first (repeated DefinedTwice (map (λ n. n.now) (take l.name-index l.left_sides))))
