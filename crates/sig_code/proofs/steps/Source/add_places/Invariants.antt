use Rattle.sig_code.proofs.{take, Adds, over_order, operations_in, numbers_of}
use Rattle.sig_code.proofs.steps.Source.add_places.Given as goal

abbrev pub invariant-loop-place : goal.invariant-loop-place
invariant-loop-place l =
    Adds l.self.store.now.nodes (over_order (operations_in l.self.store.now.nodes l.self.ops.now) (take l.place (numbers_of l.self.order.now)) l.self.links.now l.actor)
    l.initial.code l.code
