use Rattle.std.proofs.Common.{below_more}
use Rattle.sig_rel.proofs.{has_still}
use Rattle.sig_rel.proofs.numbering.Numbering.number_signals.Goals as goal

pub loop-signal-preserved : goal.loop-signal-preserved
loop-signal-preserved c = record {
  given = c.number.ensures.given;
  each = below_more _ _ (λ s lt. has_still c.args.kernel.now c.args.least.now c.loop-signal.self c.number.new.self s c.number.ensures.retains (c.loop-signal.invariant.each s lt)) c.number.ensures.has;
}
