use Rattle.sig_compile_command.proofs.{inl, inr, refl, done, SaysLine, performs_outcome, performs_refusal, compiling, compile_number, one_compile_outcome}
use Rattle.sig_compile_command.proofs.check.compile_command.Goals as goal

pub returns-in-Ok : goal.returns-in-Ok
returns-in-Ok g c =
    performs_outcome (compiling c.args.product c.args.pace c.args.program.now) (g.F.Files.contents c.args.files.now) (g.F.Files.at c.args.files.now) (g.F.Files.at c.compiled.new.files)
    (g.F.Files.misses c.args.files.now) (g.F.Files.misses c.compiled.new.files) (g.F.Files.faults c.args.files.now) (g.F.Files.faults c.compiled.new.files)
    (one_compile_outcome c.args.product c.args.pace c.args.program.now) g.S.Sink.took c.args.out.now c.put_due.new.out (g.S.Sink.faults c.args.out.now) (g.S.Sink.faults c.put_due.new.out) (g.S.Sink.clean c.put_due.new.out)
    (SaysLine g.E.Sink.took (g.E.Sink.faults c.args.err.now) (g.E.Sink.faults c.put_due.new.err) c.args.err.now c.put_due.new.err) c.put_due.result
    (done c.in-Ok.text.items c.args.program.now) (inl (inl refl)) (inl refl) (inr (inl refl)) c.in-Ok.ensures.text (rw c.deref.ensures.value at c.put_due.ensures.writes)

pub returns-in-Err : goal.returns-in-Err
returns-in-Err g c =
    performs_refusal (compiling c.args.product c.args.pace c.args.program.now) (g.F.Files.contents c.args.files.now) (g.F.Files.at c.args.files.now) (g.F.Files.at c.compiled.new.files)
    (g.F.Files.misses c.args.files.now) (g.F.Files.misses c.compiled.new.files) (g.F.Files.faults c.args.files.now) (g.F.Files.faults c.compiled.new.files)
    (one_compile_outcome c.args.product c.args.pace c.args.program.now) g.S.Sink.took c.args.out.now (g.S.Sink.faults c.args.out.now) (g.S.Sink.faults c.args.out.now) (g.S.Sink.clean c.args.out.now)
    (SaysLine g.E.Sink.took (g.E.Sink.faults c.args.err.now) (g.E.Sink.faults c.refuse.new.err) c.args.err.now c.refuse.new.err) c.refuse.result c.in-Err.refusal
    (g.met.S.Sink.took_nothing c.args.out.now) (compile_number c.args.program.now) c.in-Err.ensures.stops c.refuse.ensures.said c.refuse.ensures.status
