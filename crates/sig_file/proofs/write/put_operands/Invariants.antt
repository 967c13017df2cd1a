use Rattle.sig_file.proofs.{◌≡◌, ◌++◌, take, flat_map, operand_bytes}
use Rattle.sig_file.proofs.write.put_operands.Given as goal

abbrev pub invariant-loop-operand : goal.invariant-loop-operand
invariant-loop-operand l = l.out.items ≡ l.fn.out.items ++ flat_map operand_bytes (take l.operand-index l.operands)
