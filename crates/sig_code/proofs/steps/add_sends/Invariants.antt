use Rattle.sig_code.proofs.{map, take, Adds, doing, sending}
use Rattle.sig_code.proofs.steps.add_sends.Given as goal

abbrev pub invariant-loop-route : goal.invariant-loop-route
invariant-loop-route l =
    Adds l.store.nodes (map (λ route. doing l.store.nodes l.at.guard l.at.pos (sending route)) (take l.route-index l.routes)) l.initial.code l.code
