use Rattle.sig_c_write.specs.inner.Frames.{first_line}
use Rattle.sig_c_write.proofs.Numbered.{line_more}
use Rattle.sig_c_write.proofs.frame.put_firsts.Goals as goal

pub loop-n-preserved : goal.loop-n-preserved
loop-n-preserved c =
    line_more (first_line c.args.fields.now) c.args.text.now.items c.loop-n.text.items c.put_first.new.text.items c.args.memories.now c.loop-n.n _ c.loop-n-test.true c.loop-n.invariant
    c.in_ok-put_first.ensures
