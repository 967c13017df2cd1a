use Rattle.std.proofs.Common.{All}
use Rattle.sig_dd.specs.Nodes.{Holds}
use Rattle.sig_passes.proofs.rows.check_lines.Given as goal

-- the lines go on, and each function that was made is one of the store
abbrev pub invariant-loop-number : goal.invariant-loop-number
invariant-loop-number g l =
    (goal.iterator-loop-number g).can_next l.number-iterator ×
    (goal.iterator-loop-number g).is_finite l.number-iterator ×
    All (Holds l.store.nodes) l.refs.items
