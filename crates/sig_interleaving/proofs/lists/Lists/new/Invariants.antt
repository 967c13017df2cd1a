use Rattle.sig_interleaving.proofs.{AreEmpty, Lists}
use Rattle.sig_interleaving.proofs.lists.Lists.new.Given as goal

-- so many links so far, each of them empty
abbrev pub invariant-loop : goal.invariant-loop
invariant-loop l = AreEmpty l.counter l.capacity (let lists : Lists = record { queues = l.queues } in lists)
