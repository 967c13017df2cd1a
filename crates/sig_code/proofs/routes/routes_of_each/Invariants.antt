use Rattle.sig_code.proofs.{◌≡◌, map, take, routes_of}
use Rattle.sig_code.proofs.routes.routes_of_each.Given as goal

abbrev pub invariant-loop-op : goal.invariant-loop-op
invariant-loop-op l = l.routes.items ≡ map (λ op. routes_of l.links op.writes) (take l.op-index l.ops)
