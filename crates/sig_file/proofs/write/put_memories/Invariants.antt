use Rattle.sig_file.proofs.{◌≡◌, ◌++◌, take, flat_map, memory_bytes}
use Rattle.sig_file.proofs.write.put_memories.Given as goal

abbrev pub invariant-loop-memory : goal.invariant-loop-memory
invariant-loop-memory l = l.out.items ≡ l.fn.out.items ++ flat_map memory_bytes (take l.memory-index l.memories)
