use Rattle.sig_type.proofs.{Recursive, candidate, each, Reaches, IsCovered, graph_in, Finds, interface_models, take, length, ◌≡◌, ◌∷◌, []}
use Rattle.sig_type.proofs.recursion.recursive_calls.Given as goal

abbrev pub invariant-loop-name : goal.invariant-loop-name
invariant-loop-name l = record {
  finds : Finds l.initial.first l.first (each (λ n. candidate (Recursive n.now) (Reaches (interface_models l.processes.interfaces.items) n.now.text l.back.text) ∷ []) (take l.name-index l.names));
  covered : IsCovered (graph_in l.calls.callees.items) l.target l.visited.items [];
  sizes : length l.visited.items ≡ length l.calls.callees.items;
}
