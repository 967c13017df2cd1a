use Rattle.sig_file.proofs.{◌≡◌, take, filter_map, memory_of}
use Rattle.sig_file.proofs.image_parts.memories_of.Given as goal

abbrev pub invariant-loop-equation : goal.invariant-loop-equation
invariant-loop-equation l = l.memories.items ≡ filter_map (λ equation. memory_of l.signals equation.form) (take l.equation-index l.equations)
