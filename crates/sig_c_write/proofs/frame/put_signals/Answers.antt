use Rattle.std.proofs.Common.{◌++◌, ◌∙◌, ap}
use Rattle.sig_file.specs.declared.images.ImageSignal.{ImageSignal}
use Rattle.sig_c_write.specs.Given.{scope_in}
use Rattle.sig_c_write.specs.inner.Frames.{signal_line}
use Rattle.sig_c_write.proofs.Numbered.{line_more}
use Rattle.sig_c_write.proofs.frame.put_signals.Goals as goal

pub loop-n-preserved : goal.loop-n-preserved
loop-n-preserved c =
    line_more (signal_line (scope_in c.args.names.now)) c.args.text.now.items c.loop-n.text.items c.put_signal.new.text.items c.args.signals.now c.loop-n.n c.index-signals-n.result c.loop-n-test.true
    c.loop-n.invariant (c.in_ok-put_signal.ensures ∙ ap (λ (signal : ImageSignal). c.loop-n.text.items ++ signal_line (scope_in c.args.names.now) (c.loop-n.n, signal)) c.index-signals-n.is)
