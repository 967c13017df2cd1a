use Rattle.sig_file.proofs.{◌≡◌, ◌++◌, take, flat_map, condition_bytes}
use Rattle.sig_file.proofs.write.put_conditions.Given as goal

abbrev pub invariant-loop-condition : goal.invariant-loop-condition
invariant-loop-condition l = l.out.items ≡ l.fn.out.items ++ flat_map condition_bytes (take l.condition-index l.conditions)
