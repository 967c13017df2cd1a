use Rattle.sig_play_command.proofs.{refl, subst, sym, Kernel, SaysLine, IsOfKernel, end_line, end_named, wrote_part, wrote_whole}
use Rattle.sig_play_command.proofs.command.play_through.Goals as goal

pub say_end-requires : goal.say_end-requires
say_end-requires g c =
    subst (λ (kernel : Kernel). IsOfKernel kernel c.in-Ok.end.cause) (sym c.requires.kernel)
    (end_named c.args.play.now.core.plan.now c.requires.accepted c.args.play.now.core.inputs.now c.requires.play.core.fits c.args.play.now.core.capacity c.args.play.now.core.limit c.args.events.now c.in-Ok.end c.in-Ok.ensures.end)

pub returns-in-Ok : goal.returns-in-Ok
returns-in-Ok g c =
    wrote_whole c.args.play.now.core.plan.now c.requires.accepted c.args.play.now.core.inputs.now c.requires.play.core.fits c.args.play.now.core.capacity c.args.play.now.core.limit c.args.events.now
    g.S.Sink.took c.args.out.now c.play_out.new.out (g.S.Sink.faults c.args.out.now) (g.S.Sink.faults c.play_out.new.out) (g.S.Sink.clean c.play_out.new.out)
    (SaysLine g.E.Sink.took (g.E.Sink.faults c.args.err.now) (g.E.Sink.faults c.say_end.new.err) c.args.err.now c.say_end.new.err) c.end_status.result
    c.in-Ok.end c.in-Ok.ensures.end c.in-Ok.ensures.whole c.in-Ok.ensures.clean
    (subst (λ (kernel : Kernel). SaysLine g.E.Sink.took (g.E.Sink.faults c.args.err.now) (g.E.Sink.faults c.say_end.new.err) c.args.err.now c.say_end.new.err (end_line kernel c.in-Ok.end)) c.requires.kernel c.say_end.ensures)
    c.end_status.ensures

pub returns-in-Err : goal.returns-in-Err
returns-in-Err g c =
    wrote_part c.args.play.now.core.plan.now c.requires.accepted c.args.play.now.core.inputs.now c.requires.play.core.fits c.args.play.now.core.capacity c.args.play.now.core.limit c.args.events.now
    g.S.Sink.took c.args.out.now c.play_out.new.out (g.S.Sink.faults c.args.out.now) (g.S.Sink.faults c.play_out.new.out) (g.S.Sink.clean c.play_out.new.out)
    (SaysLine g.E.Sink.took (g.E.Sink.faults c.args.err.now) (g.E.Sink.faults c.say_fault.new.err) c.args.err.now c.say_fault.new.err) 6
    c.in-Err.ensures.prefix c.in-Err.ensures.failed c.say_fault.ensures refl
