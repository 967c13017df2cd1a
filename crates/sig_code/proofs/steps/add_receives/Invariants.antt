use Rattle.sig_code.proofs.{map, take, filter_map, Adds, doing, receiving}
use Rattle.sig_code.proofs.steps.add_receives.Given as goal

abbrev pub invariant-loop-route : goal.invariant-loop-route
invariant-loop-route l =
    Adds l.store.nodes (map (doing l.store.nodes l.at.guard l.at.pos) (filter_map (receiving l.actor) (take l.route-index l.routes))) l.initial.code l.code
