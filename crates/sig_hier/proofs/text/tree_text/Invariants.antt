use Rattle.sig_hier.proofs.{◌≡◌, take, flat_map, line_text}
use Rattle.sig_hier.proofs.text.tree_text.Given as goal

abbrev pub invariant-loop-line : goal.invariant-loop-line
invariant-loop-line l = l.text.items ≡ flat_map (line_text l.kernel l.class_of) (take l.line-index l.line-items)
