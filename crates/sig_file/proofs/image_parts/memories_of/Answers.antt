use Rattle.sig_file.proofs.{memory_of, filter_map_next}
use Rattle.sig_file.proofs.image_parts.memories_of.Goals as goal

pub loop-equation-preserved : goal.loop-equation-preserved
loop-equation-preserved c =
    filter_map_next (λ equation. memory_of c.args.signals.now equation.form) c.args.equations.now c.loop-equation.equation-index c.equation-item.result c.loop-equation-test.true c.equation-item.is
    c.loop-equation.memories.items c.add_memory.new.memories.items c.memory_of.result c.loop-equation.invariant c.memory_of.ensures c.in_ok-add_memory.ensures
