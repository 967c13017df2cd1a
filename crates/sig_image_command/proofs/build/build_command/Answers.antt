use Rattle.sig_image_command.proofs.{◌≡◌, ◌∙◌, inl, inr, refl, sym, done, SaysLine, performs_outcome, performs_refusal, building, no_refusal, took_image, build_number, one_build_outcome}
use Rattle.sig_image_command.proofs.build.build_command.Goals as goal

pub returns-in-Ok-clause-performs : goal.returns-in-Ok-clause-performs
returns-in-Ok-clause-performs g c =
    performs_outcome (building c.args.program.now) (g.F.Files.contents c.args.files.now) (g.F.Files.at c.args.files.now) (g.F.Files.at c.built.new.files)
    (g.F.Files.misses c.args.files.now) (g.F.Files.misses c.built.new.files) (g.F.Files.faults c.args.files.now) (g.F.Files.faults c.built.new.files)
    (one_build_outcome c.args.program.now) g.S.Sink.took c.args.out.now c.put_due.new.out (g.S.Sink.faults c.args.out.now) (g.S.Sink.faults c.put_due.new.out) (g.S.Sink.clean c.put_due.new.out)
    (SaysLine g.E.Sink.took (g.E.Sink.faults c.args.err.now) (g.E.Sink.faults c.put_due.new.err) c.args.err.now c.put_due.new.err) c.put_due.result
    (done c.in-Ok.bytes.items c.args.program.now) (inl (inl refl)) (inl (inl refl)) (inl (inr (inl refl))) c.in-Ok.ensures.bytes (rw c.deref.ensures.value at c.put_due.ensures.writes)

pub returns-in-Err-clause-performs : goal.returns-in-Err-clause-performs
returns-in-Err-clause-performs g c =
    performs_refusal (building c.args.program.now) (g.F.Files.contents c.args.files.now) (g.F.Files.at c.args.files.now) (g.F.Files.at c.built.new.files)
    (g.F.Files.misses c.args.files.now) (g.F.Files.misses c.built.new.files) (g.F.Files.faults c.args.files.now) (g.F.Files.faults c.built.new.files)
    (one_build_outcome c.args.program.now) g.S.Sink.took c.args.out.now (g.S.Sink.faults c.args.out.now) (g.S.Sink.faults c.args.out.now) (g.S.Sink.clean c.args.out.now)
    (SaysLine g.E.Sink.took (g.E.Sink.faults c.args.err.now) (g.E.Sink.faults c.refuse.new.err) c.args.err.now c.refuse.new.err) c.refuse.result c.in-Err.refusal
    (g.met.S.Sink.took_nothing c.args.out.now) (build_number c.args.program.now) c.in-Err.ensures.stops c.refuse.ensures.said c.refuse.ensures.status

pub returns-in-Ok-clause-image : goal.returns-in-Ok-clause-image
returns-in-Ok-clause-image g c = λ zero.
    let writes = rw c.deref.ensures.value at c.put_due.ensures.writes in
    took_image (g.S.Sink.took c.args.out.now) c.put_due.new.out c.in-Ok.bytes.items c.in-Ok.ensures.image (writes.whole (λ six. let no : 0 ≡ 6 = sym zero ∙ six in absurd cc))

pub returns-in-Err-clause-image : goal.returns-in-Err-clause-image
returns-in-Err-clause-image g c = λ zero. absurd (no_refusal c.in-Err.refusal (sym c.refuse.ensures.status ∙ zero))
