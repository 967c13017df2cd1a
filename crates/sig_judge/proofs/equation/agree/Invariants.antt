-- those so far agree, and the others are as they were
use Rattle.sig_judge.proofs.{◌≡◌, ◌<◌, ◌≤◌, ◌⊎◌, ℕ, None, length, map, take, get_or, AllZip, Node, node_expression, AgreesWith}
use Rattle.sig_judge.proofs.equation.agree.Given as goal

abbrev pub invariant-loop-i : goal.invariant-loop-i
invariant-loop-i l = record {
  same : length l.operands.items ≡ length l.initial.operands.items;
  some : (l.agreed ≡ None) ⊎ (0 < l.i);
  done : AllZip (AgreesWith l.row l.agreed) (map node_expression (take l.i l.initial.operands.items)) (map node_expression (take l.i l.operands.items));
  rest : (k : ℕ) (d : Node) → l.i ≤ k → get_or l.operands.items k d ≡ get_or l.initial.operands.items k d;
}
