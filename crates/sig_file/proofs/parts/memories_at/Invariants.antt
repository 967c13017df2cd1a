use Rattle.sig_file.proofs.{◌≡◌, ◌-◌, [], memory_from, several}
use Rattle.sig_file.proofs.parts.memories_at.Given as goal

abbrev pub invariant-loop : goal.invariant-loop
invariant-loop l = several (λ before. memory_from) (l.count - l.counter) l.memories.items l.rest ≡ several (λ before. memory_from) l.count [] l.bytes
