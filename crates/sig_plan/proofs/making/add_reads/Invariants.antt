use Rattle.sig_plan.proofs.{map, range_with_len, signal_id, Adds, read_of}
use Rattle.sig_plan.proofs.making.add_reads.Given as goal

abbrev pub invariant-loop-number : goal.invariant-loop-number
invariant-loop-number l =
    Adds l.source.clocks.now (λ presence. map (λ number. read_of l.source.signals.now presence (signal_id number)) (range_with_len 0 l.number)) l.initial.ops.items l.ops.items
