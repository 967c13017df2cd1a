use Rattle.sig_work.proofs.{◌≡◌, ◌++◌, List, length, IsSeatOf, IsJoined, Share}
use Rattle.sig_work.proofs.word.joined.Given as goal

-- the seats of those that are gone were joined
abbrev pub invariant-loop-share : goal.invariant-loop-share
invariant-loop-share l = IsSeatOf l.halt l.seat × (gone : List Share) × (l.fn.shares.items ≡ l.shares.items ++ gone) × IsJoined l.fn.seat l.seat gone

abbrev pub decreases-loop-share : goal.decreases-loop-share
decreases-loop-share l = length l.shares.items
