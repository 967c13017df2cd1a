use Rattle.sig_image_command.proofs.{Err, ap, inl, refl, subst, sym, ImageView, SaysLine, IsOfImage, exec_line, cause_there, some_image_run, wrote_part, wrote_whole}
use Rattle.sig_image_command.proofs.exec.exec_loaded.Goals as goal

pub say_end-requires : goal.say_end-requires
say_end-requires g c =
    let run = c.in-Ok.ensures.whole in
    subst (λ (i : ImageView). IsOfImage i c.in-Ok.end.cause) (sym c.image_in-image.ensures.image)
    (cause_there _ c.image_in-image.ensures.right _ c.args.limit run.0 c.in-Ok.end run.1)

pub returns-in-Ok : goal.returns-in-Ok
returns-in-Ok g c =
    let said = subst (λ (i : ImageView). SaysLine g.E.Sink.took (g.E.Sink.faults c.args.err.now) (g.E.Sink.faults c.say_end.new.err) c.args.err.now c.say_end.new.err (exec_line i c.in-Ok.end)) c.image_in-image.ensures.image c.say_end.ensures in
    inl (wrote_whole c.args.loaded.now.image c.args.loaded.now.inputs c.args.limit g.S.Sink.took c.args.out.now c.exec_out.new.out
    (g.S.Sink.faults c.args.out.now) (g.S.Sink.faults c.exec_out.new.out) (g.S.Sink.clean c.exec_out.new.out)
    (SaysLine g.E.Sink.took (g.E.Sink.faults c.args.err.now) (g.E.Sink.faults c.say_end.new.err) c.args.err.now c.say_end.new.err) c.end_status.result
    c.in-Ok.end c.in-Ok.ensures.whole c.in-Ok.ensures.clean said c.end_status.ensures)

pub returns-in-Err-WriteFault : goal.returns-in-Err-WriteFault
returns-in-Err-WriteFault g c =
    let is = ap Err c.in-Err-WriteFault.field-0-is in
    inl (wrote_part c.args.loaded.now.image c.args.loaded.now.inputs c.args.limit g.S.Sink.took c.args.out.now c.exec_out.new.out
    (g.S.Sink.faults c.args.out.now) (g.S.Sink.faults c.exec_out.new.out) (g.S.Sink.clean c.exec_out.new.out)
    (SaysLine g.E.Sink.took (g.E.Sink.faults c.args.err.now) (g.E.Sink.faults c.say_fault.new.err) c.args.err.now c.say_fault.new.err) 6
    (some_image_run c.args.loaded.now.image c.image_in-image.ensures.right c.image_in-image.ensures.sound c.args.loaded.now.inputs c.args.limit c.requires.fit)
    (c.in-Err-WriteFault.ensures.prefix is) (c.in-Err-WriteFault.ensures.failed is) c.say_fault.ensures refl)
