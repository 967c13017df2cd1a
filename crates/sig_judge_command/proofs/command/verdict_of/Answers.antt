use Rattle.sig_judge_command.proofs.{err_from_is_err_and, flat_body_of, reaches_verdict, stops_flat, stops_trace, verdict_holds}
use Rattle.sig_judge_command.proofs.command.verdict_of.Goals as goal

pub returns-in_err-flat-clause-stops : goal.returns-in_err-flat-clause-stops
returns-in_err-flat-clause-stops g c =
    let p = err_from_is_err_and c.from_residual.result c.from_residual.ensures.1 in
    rw (p.1, p.2) (stops_flat (g.F.Files.contents c.args.files.now) (g.F.Files.at c.args.files.now) (g.F.Files.at c.load_flat.new.files)
    (g.F.Files.misses c.args.files.now) (g.F.Files.misses c.load_flat.new.files) (g.F.Files.misses c.load_flat.new.files)
    (g.F.Files.faults c.args.files.now) (g.F.Files.faults c.load_flat.new.files) (g.F.Files.faults c.load_flat.new.files) c.args.program.now c.args.traces.now c.in_err-flat.field-0.0
    c.in_err-flat.ensures.about c.in_err-flat.ensures.counted c.in_err-flat.ensures.refused c.in_err-flat.ensures.read.told)

pub returns-in_err-trace-clause-stops : goal.returns-in_err-trace-clause-stops
returns-in_err-trace-clause-stops g c =
    let p = err_from_is_err_and c.from_residual-in_err-trace.result c.from_residual-in_err-trace.ensures.1 in
    rw (p.1, p.2) (stops_trace (g.F.Files.contents c.args.files.now) (g.F.Files.at c.args.files.now) (g.F.Files.at c.load_trace.new.files)
    (g.F.Files.misses c.args.files.now) (g.F.Files.misses c.load_flat.new.files) (g.F.Files.misses c.load_trace.new.files)
    (g.F.Files.faults c.args.files.now) (g.F.Files.faults c.load_flat.new.files) (g.F.Files.faults c.load_trace.new.files)
    c.args.program.now c.args.traces.now c.in_err-trace.field-0.0 (g.F.Files.contents c.load_flat.new.files) (flat_body_of c.in_ok-flat.flat)
    c.in_ok-flat.ensures.read.contents_stay c.in_ok-flat.ensures.read.misses_stay c.in_ok-flat.ensures.read.faults_stay c.in_ok-flat.ensures.flat
    c.in_err-trace.ensures.about c.in_err-trace.ensures.counted c.in_err-trace.ensures.refused c.in_err-trace.ensures.read.told)

pub returns-in-Ok-clause-verdict : goal.returns-in-Ok-clause-verdict
returns-in-Ok-clause-verdict g c =
    reaches_verdict (g.F.Files.contents c.args.files.now) (g.F.Files.contents c.load_flat.new.files) (g.F.Files.at c.args.files.now) (g.F.Files.at c.load_trace.new.files)
    c.args.program.now c.args.traces.now (flat_body_of c.in_ok-flat.flat) c.in_ok-trace.trace.rows.items c.in-Ok.verdict
    c.in_ok-flat.ensures.read.contents_stay c.in_ok-flat.ensures.flat c.in_ok-trace.ensures.trace
    (verdict_holds (flat_body_of c.in_ok-flat.flat) c.in_ok-trace.trace.rows.items c.in-Ok.verdict c.in-Ok.ensures.accepted c.in-Ok.ensures.broken)
    c.in_ok-trace.ensures.read.told
