use Rattle.sig_clock.proofs.{ap, length, first_free}
use Rattle.sig_clock.proofs.conditions.free_signals.Goals as goal

pub loop-equation-init : goal.loop-equation-init
loop-equation-init c = first_free c.args.kernel.now c.in_ok-free.free.items _ c.in_ok-free.ensures (ap length c.as_slice-signals.ensures)
