use Rattle.sig_file.proofs.{arith, signal_bytes, length_next, signal_len}
use Rattle.sig_file.proofs.image_of.signals_len.Goals as goal

pub loop-signal-preserved : goal.loop-signal-preserved
loop-signal-preserved c =
    let next = length_next signal_bytes c.args.signals.now c.loop-signal.signal-index c.signal-item.result c.loop-signal-test.true c.signal-item.is in
    omega (arith, next, signal_len c.signal-item.result, c.loop-signal.invariant, c.saturating_add.ensures, c.len.ensures, c.saturating_add-len.ensures)
