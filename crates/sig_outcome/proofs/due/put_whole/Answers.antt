use Rattle.sig_outcome.proofs.{TookPrefix-whole, flushed}
use Rattle.sig_outcome.proofs.due.put_whole.Goals as goal

pub returns-in_err-flush-clause-prefix : goal.returns-in_err-flush-clause-prefix
returns-in_err-flush-clause-prefix g c =
    TookPrefix-whole g.S.Sink.took c.args.out.now c.flush.new.self c.args.text.now
    (flushed g.S.Sink.took g.met.S.Sink.took_both c.args.text.now c.args.out.now c.put_all.new.sink c.flush.new.self c.in_ok-put_all.ensures.all c.flush.ensures.bytes)

pub returns-clause-whole : goal.returns-clause-whole
returns-clause-whole g c =
    flushed g.S.Sink.took g.met.S.Sink.took_both c.args.text.now c.args.out.now c.put_all.new.sink c.flush.new.self c.in_ok-put_all.ensures.all c.flush.ensures.bytes

pub returns-clause-prefix : goal.returns-clause-prefix
returns-clause-prefix g c =
    TookPrefix-whole g.S.Sink.took c.args.out.now c.flush.new.self c.args.text.now
    (flushed g.S.Sink.took g.met.S.Sink.took_both c.args.text.now c.args.out.now c.put_all.new.sink c.flush.new.self c.in_ok-put_all.ensures.all c.flush.ensures.bytes)
