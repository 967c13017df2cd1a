use Rattle.sig_play_command.proofs.{SaysLine, performs_refusal, playing, play_number, one_play_outcome, performs_play}
use Rattle.sig_play_command.proofs.command.play_command.Goals as goal

pub returns-in-Ok : goal.returns-in-Ok
returns-in-Ok g c =
    performs_play (g.F.Files.contents c.args.files.now) (g.F.Files.at c.args.files.now) (g.F.Files.at c.load_script.new.files)
    (g.F.Files.misses c.args.files.now) (g.F.Files.misses c.load_script.new.files) (g.F.Files.faults c.args.files.now) (g.F.Files.faults c.load_script.new.files)
    c.args.program.now c.args.flows.now c.args.events.now c.args.settings c.in-Ok.script.loaded.plan.kernel c.in-Ok.script.loaded.inputs c.in-Ok.script.events.items
    c.in-Ok.ensures.program c.in-Ok.ensures.few c.in-Ok.ensures.flows c.in-Ok.ensures.events c.in-Ok.ensures.last
    g.S.Sink.took c.args.out.now c.play_script.new.out (g.S.Sink.faults c.args.out.now) (g.S.Sink.faults c.play_script.new.out) (g.S.Sink.clean c.play_script.new.out)
    (SaysLine g.E.Sink.took (g.E.Sink.faults c.args.err.now) (g.E.Sink.faults c.play_script.new.err) c.args.err.now c.play_script.new.err) c.play_script.result
    (g.met.S.Sink.took_nothing c.args.out.now) c.play_script.ensures

pub returns-in-Err : goal.returns-in-Err
returns-in-Err g c =
    performs_refusal (playing c.args.program.now c.args.flows.now c.args.events.now c.args.settings) (g.F.Files.contents c.args.files.now) (g.F.Files.at c.args.files.now) (g.F.Files.at c.load_script.new.files)
    (g.F.Files.misses c.args.files.now) (g.F.Files.misses c.load_script.new.files) (g.F.Files.faults c.args.files.now) (g.F.Files.faults c.load_script.new.files)
    (one_play_outcome c.args.program.now c.args.flows.now c.args.events.now c.args.settings) g.S.Sink.took c.args.out.now (g.S.Sink.faults c.args.out.now) (g.S.Sink.faults c.args.out.now) (g.S.Sink.clean c.args.out.now)
    (SaysLine g.E.Sink.took (g.E.Sink.faults c.args.err.now) (g.E.Sink.faults c.refuse.new.err) c.args.err.now c.refuse.new.err) c.refuse.result c.in-Err.refusal
    (g.met.S.Sink.took_nothing c.args.out.now) (play_number c.args.program.now c.args.flows.now c.args.events.now) c.in-Err.ensures.stops c.refuse.ensures.said c.refuse.ensures.status
