use Rattle.sig_file.proofs.{◌≡◌, ◌-◌, ◌^◌, flat_map, length, take, min, operand_bytes}
use Rattle.sig_file.proofs.image_of.operands_len.Given as goal

abbrev pub invariant-loop-operand : goal.invariant-loop-operand
invariant-loop-operand l = l.len ≡ min (length (flat_map operand_bytes (take l.operand-index l.operands))) (2 ^ 64 - 1)
