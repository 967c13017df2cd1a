use Rattle.sig_back.proofs.{◌≡◌, map, take, name_at}
use Rattle.sig_back.proofs.telling.fault.Given as goal

abbrev pub invariant-loop-x : goal.invariant-loop-x
invariant-loop-x l = l.names.items ≡ map (name_at l.kernel) (take l.x-index l.signals)
