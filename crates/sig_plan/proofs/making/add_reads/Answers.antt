use Rattle.sig_plan.proofs.{sym, arith, map-range_with_len_more, signal_id, read_of, adds_next}
use Rattle.sig_plan.proofs.making.add_reads.Goals as goal

pub loop-number-preserved : goal.loop-number-preserved
loop-number-preserved c =
    let signals = c.args.source.now.signals.now in
    adds_next c.args.source.now.clocks.now _ _ (λ presence. read_of signals presence (signal_id c.loop-number.number)) _ c.loop-number.ops.items _ c.read.result c.loop-number.invariant c.read.ensures c.in_ok-push.ensures.items
    (λ presence. sym (map-range_with_len_more (λ number. read_of signals presence (signal_id number)) 0 c.loop-number.number c.loop-number.number (omega arith)))
