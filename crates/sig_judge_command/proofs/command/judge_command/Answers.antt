use Rattle.sig_judge_command.proofs.{inl, inr, refl, SaysLine, performs_outcome, performs_refusal, judged, judging, judge_number, one_judge_outcome, verdict_done, verdict_number}
use Rattle.sig_judge_command.proofs.command.judge_command.Goals as goal

pub returns-in-Ok : goal.returns-in-Ok
returns-in-Ok g c =
    performs_outcome (judging c.args.program.now c.args.traces.now) (g.F.Files.contents c.args.files.now) (g.F.Files.at c.args.files.now) (g.F.Files.at c.verdict_of.new.files)
    (g.F.Files.misses c.args.files.now) (g.F.Files.misses c.verdict_of.new.files) (g.F.Files.faults c.args.files.now) (g.F.Files.faults c.verdict_of.new.files)
    (one_judge_outcome c.args.program.now c.args.traces.now) g.S.Sink.took c.args.out.now c.put_verdict.new.out (g.S.Sink.faults c.args.out.now) (g.S.Sink.faults c.put_verdict.new.out) (g.S.Sink.clean c.put_verdict.new.out)
    (SaysLine g.E.Sink.took (g.E.Sink.faults c.args.err.now) (g.E.Sink.faults c.put_verdict.new.err) c.args.err.now c.put_verdict.new.err) c.put_verdict.result
    (judged c.in-Ok.verdict c.args.traces.now) (verdict_done c.in-Ok.verdict) (verdict_number c.in-Ok.verdict) (inr (inl refl)) c.in-Ok.ensures.verdict c.put_verdict.ensures

pub returns-in-Err : goal.returns-in-Err
returns-in-Err g c =
    performs_refusal (judging c.args.program.now c.args.traces.now) (g.F.Files.contents c.args.files.now) (g.F.Files.at c.args.files.now) (g.F.Files.at c.verdict_of.new.files)
    (g.F.Files.misses c.args.files.now) (g.F.Files.misses c.verdict_of.new.files) (g.F.Files.faults c.args.files.now) (g.F.Files.faults c.verdict_of.new.files)
    (one_judge_outcome c.args.program.now c.args.traces.now) g.S.Sink.took c.args.out.now (g.S.Sink.faults c.args.out.now) (g.S.Sink.faults c.args.out.now) (g.S.Sink.clean c.args.out.now)
    (SaysLine g.E.Sink.took (g.E.Sink.faults c.args.err.now) (g.E.Sink.faults c.refuse.new.err) c.args.err.now c.refuse.new.err) c.refuse.result c.in-Err.refusal
    (g.met.S.Sink.took_nothing c.args.out.now) (judge_number c.args.program.now c.args.traces.now) c.in-Err.ensures.stops c.refuse.ensures.said c.refuse.ensures.status
