use Rattle.sig_pace.proofs.{◌≡◌, ◌+◌, ◌++◌, drop, marked_from, moved}
use Rattle.sig_pace.proofs.ties.add_marked.Given as goal

abbrev pub invariant-loop-number : goal.invariant-loop-number
invariant-loop-number l =
    l.equations.items ++ marked_from l.kernel (moved l.room.inputs l.room.more) (l.room.inputs + l.number) (l.room.signals + l.room.more + l.number) (drop l.number l.least)
    ≡ l.fn.equations.items ++ marked_from l.kernel (moved l.room.inputs l.room.more) l.room.inputs (l.room.signals + l.room.more) l.least
