use Rattle.sig_file.proofs.{◌≡◌, ◌-◌, [], operand_at, operand_count, several}
use Rattle.sig_file.proofs.operand.operands_at.Given as goal

abbrev pub invariant-loop : goal.invariant-loop
invariant-loop l = several (operand_at l.signals l.op l.kind) (operand_count l.op - l.counter) l.operands.items l.rest ≡ several (operand_at l.signals l.op l.kind) (operand_count l.op) [] l.bytes
