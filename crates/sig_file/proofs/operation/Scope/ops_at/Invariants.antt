use Rattle.sig_file.proofs.{◌≡◌, ◌-◌, op_at, ops_at, several}
use Rattle.sig_file.proofs.operation.Scope.ops_at.Given as goal

abbrev pub invariant-loop : goal.invariant-loop
invariant-loop l = several (λ before. op_at l.self) (l.count - l.counter) l.ops.items l.rest ≡ ops_at l.self l.count l.bytes
