use Rattle.sig_file.proofs.{◌≡◌, ◌-◌, [], node_at, several, IsNodeSet}
use Rattle.sig_file.proofs.parts.nodes_at.Given as goal

abbrev pub invariant-loop : goal.invariant-loop
invariant-loop l = record {
  known : IsNodeSet l.nodes.items l.known.set;
  rest : several (node_at l.conditions) (l.count - l.counter) l.nodes.items l.rest ≡ several (node_at l.conditions) l.count [] l.bytes;
}
