use Rattle.sig_type.proofs.{DeclaredTwice, texts, repeated, Finds, map, take, ◌≡◌}
use Rattle.sig_type.proofs.signals.declared_twice.Given as goal

abbrev pub invariant-loop-one : goal.invariant-loop-one
invariant-loop-one l = (l.earlier ≡ texts (map (λ d. d.name.now) (take l.one-index l.declared))) × (Finds l.initial.first l.first (repeated DeclaredTwice (map (λ d. d.name.now) (take l.one-index l.declared))))
