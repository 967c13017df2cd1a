use Rattle.sig_graph.proofs.{List, take, Contains, ◌↔◌, SigId, operation_in, Needs, IsBefore}
use Rattle.sig_graph.proofs.graph.predecessors_of.Given as goal

abbrev pub invariant-loop-number : goal.invariant-loop-number
invariant-loop-number l = (conditions : List SigId) → ((x : SigId) → Contains l.needs x ↔ Needs conditions (operation_in l.store.nodes l.q) x)
    → IsBefore conditions l.store.nodes (take l.number l.ops) l.q l.list
