use Rattle.sig_run_command.proofs.{SaysLine, performs_refusal, running, run_number, one_run_outcome, performs_run}
use Rattle.sig_run_command.proofs.command.run_command.Goals as goal

pub returns-in-Ok : goal.returns-in-Ok
returns-in-Ok g c =
    performs_run (g.F.Files.contents c.args.files.now) (g.F.Files.at c.args.files.now) (g.F.Files.at c.load.new.files)
    (g.F.Files.misses c.args.files.now) (g.F.Files.misses c.load.new.files) (g.F.Files.faults c.args.files.now) (g.F.Files.faults c.load.new.files)
    c.args.program.now c.args.flows.now c.args.settings c.in-Ok.loaded.plan.kernel c.in-Ok.loaded.inputs
    c.in-Ok.ensures.program c.in-Ok.ensures.few c.in-Ok.ensures.flows c.in-Ok.ensures.last
    g.S.Sink.took c.args.out.now c.run_loaded.new.out (g.S.Sink.faults c.args.out.now) (g.S.Sink.faults c.run_loaded.new.out) (g.S.Sink.clean c.run_loaded.new.out)
    (SaysLine g.E.Sink.took (g.E.Sink.faults c.args.err.now) (g.E.Sink.faults c.run_loaded.new.err) c.args.err.now c.run_loaded.new.err) c.run_loaded.result
    (g.met.S.Sink.took_nothing c.args.out.now) c.run_loaded.ensures

pub returns-in-Err : goal.returns-in-Err
returns-in-Err g c =
    performs_refusal (running c.args.program.now c.args.flows.now c.args.settings) (g.F.Files.contents c.args.files.now) (g.F.Files.at c.args.files.now) (g.F.Files.at c.load.new.files)
    (g.F.Files.misses c.args.files.now) (g.F.Files.misses c.load.new.files) (g.F.Files.faults c.args.files.now) (g.F.Files.faults c.load.new.files)
    (one_run_outcome c.args.program.now c.args.flows.now c.args.settings) g.S.Sink.took c.args.out.now (g.S.Sink.faults c.args.out.now) (g.S.Sink.faults c.args.out.now) (g.S.Sink.clean c.args.out.now)
    (SaysLine g.E.Sink.took (g.E.Sink.faults c.args.err.now) (g.E.Sink.faults c.refuse.new.err) c.args.err.now c.refuse.new.err) c.refuse.result c.in-Err.refusal
    (g.met.S.Sink.took_nothing c.args.out.now) (run_number c.args.program.now c.args.flows.now) c.in-Err.ensures.stops c.refuse.ensures.said c.refuse.ensures.status
