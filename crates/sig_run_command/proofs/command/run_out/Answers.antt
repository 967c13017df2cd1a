use Rattle.sig_run_command.proofs.{subst, one_longest, Trace, IsKernelTrace, output_text, TookPrefix-whole, flushed}
use Rattle.sig_run_command.proofs.command.run_out.Goals as goal

pub returns-in-Ok-clause-whole : goal.returns-in-Ok-clause-whole
returns-in-Ok-clause-whole g c =
    let run = c.in_ok-end.ensures.whole in
    record {
      trace = run.trace;
      place = run.place;
      end = run.end;
      text = flushed g.S.Sink.took g.met.S.Sink.took_both (output_text c.args.plan.now.kernel run.trace) c.args.out.now c.run_plan.new.sink c.flush.new.self run.text c.flush.ensures.bytes;
    }

pub returns-in-Err-clause-prefix : goal.returns-in-Err-clause-prefix
returns-in-Err-clause-prefix g c = λ is trace longest.
    let run = c.in_ok-end.ensures.whole in
    let same = one_longest (IsKernelTrace c.args.plan.now.kernel) c.args.inputs.now c.args.settings.instants run.trace trace run.end.longest longest in
    TookPrefix-whole g.S.Sink.took c.args.out.now c.flush.new.self (output_text c.args.plan.now.kernel trace)
    (subst (λ (t : Trace). g.S.Sink.took c.args.out.now (output_text c.args.plan.now.kernel t) c.flush.new.self) same
    (flushed g.S.Sink.took g.met.S.Sink.took_both (output_text c.args.plan.now.kernel run.trace) c.args.out.now c.run_plan.new.sink c.flush.new.self run.text c.flush.ensures.bytes))
