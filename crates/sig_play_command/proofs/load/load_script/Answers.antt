use Rattle.sig_play_command.proofs.{err_from_is_err_and, stops_events, stops_run}
use Rattle.sig_play_command.proofs.load.load_script.Goals as goal

pub returns-in_err-loaded-clause-stops : goal.returns-in_err-loaded-clause-stops
returns-in_err-loaded-clause-stops g c =
    let p = err_from_is_err_and c.from_residual.result c.from_residual.ensures.1 in
    rw (p.1, p.2) (stops_run (g.F.Files.contents c.args.files.now) (g.F.Files.at c.args.files.now) (g.F.Files.at c.load.new.files)
    (g.F.Files.misses c.args.files.now) (g.F.Files.misses c.load.new.files) (g.F.Files.misses c.load.new.files)
    (g.F.Files.faults c.args.files.now) (g.F.Files.faults c.load.new.files) (g.F.Files.faults c.load.new.files)
    c.args.program.now c.args.flows.now c.args.events.now c.args.settings c.in_err-loaded.field-0.0 c.in_err-loaded.ensures.stops)

pub returns-in_err-events-clause-stops : goal.returns-in_err-events-clause-stops
returns-in_err-events-clause-stops g c =
    let p = err_from_is_err_and c.from_residual-in_err-events.result c.from_residual-in_err-events.ensures.1 in
    rw (p.1, p.2) (stops_events (g.F.Files.contents c.args.files.now) (g.F.Files.at c.args.files.now) (g.F.Files.at c.load_events.new.files)
    (g.F.Files.misses c.args.files.now) (g.F.Files.misses c.load.new.files) (g.F.Files.misses c.load_events.new.files)
    (g.F.Files.faults c.args.files.now) (g.F.Files.faults c.load.new.files) (g.F.Files.faults c.load_events.new.files)
    c.args.program.now c.args.flows.now c.args.events.now c.args.settings c.in_ok-loaded.loaded.plan.kernel c.in_ok-loaded.ensures.program
    c.in_ok-loaded.ensures.few
    c.in_ok-loaded.loaded.inputs c.in_ok-loaded.ensures.flows
    (g.F.Files.contents c.load.new.files) c.in_err-events.field-0.0
    c.in_ok-loaded.ensures.read.contents_stay c.in_ok-loaded.ensures.read.misses_stay c.in_ok-loaded.ensures.read.faults_stay
    c.in_err-events.ensures.about c.in_err-events.ensures.counted c.in_err-events.ensures.refused c.in_err-events.ensures.read.told)
