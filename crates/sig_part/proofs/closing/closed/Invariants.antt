use Rattle.sig_part.proofs.{◌+◌, ◌-◌, length, vec_len, Walks, is_elsewhere, marked_count}
use Rattle.sig_part.proofs.closing.closed.Given as goal

abbrev pub invariant-loop-x : goal.invariant-loop-x
invariant-loop-x l = Walks (is_elsewhere l.signals l.actor) l.needed l.seeds l.marks.items l.waiting.items

abbrev pub decreases-loop-x : goal.decreases-loop-x
decreases-loop-x l = (length l.needed - marked_count l.marks.items) + vec_len l.waiting
