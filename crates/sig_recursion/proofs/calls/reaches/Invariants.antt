use Rattle.sig_recursion.proofs.{IsWalk, graph_in, ◌≡◌, ◌+◌, length, not, count_by}
use Rattle.sig_recursion.proofs.calls.reaches.Given as goal

abbrev pub invariant-loop-next : goal.invariant-loop-next
invariant-loop-next l = record {
  walk : IsWalk (graph_in l.calls.callees.items) l.start l.target l.visited l.waiting.items;
  sizes : length l.visited ≡ length l.calls.callees.items;
}

abbrev pub decreases-loop-next : goal.decreases-loop-next
decreases-loop-next l = count_by not l.visited + length l.waiting.items
