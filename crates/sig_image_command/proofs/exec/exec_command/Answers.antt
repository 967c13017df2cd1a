use Rattle.sig_image_command.proofs.{◌≡◌, name_where_there, SaysLine, performs_refusal, executing, no_run_budget, told_by, told_never, exec_number, one_exec_outcome, performs_exec}
use Rattle.sig_image_command.proofs.exec.exec_command.Goals as goal

pub returns-in-Ok-clause-performs : goal.returns-in-Ok-clause-performs
returns-in-Ok-clause-performs g c =
    performs_exec (g.F.Files.contents c.args.files.now) (g.F.Files.at c.args.files.now) (g.F.Files.at c.load.new.files)
    (g.F.Files.misses c.args.files.now) (g.F.Files.misses c.load.new.files) (g.F.Files.faults c.args.files.now) (g.F.Files.faults c.load.new.files)
    c.args.image.now c.args.flows.now c.args.settings c.in-Ok.loaded.image c.in-Ok.loaded.inputs
    c.in-Ok.ensures.image c.in-Ok.ensures.flows c.in-Ok.ensures.last
    g.S.Sink.took c.args.out.now c.exec_loaded.new.out (g.S.Sink.faults c.args.out.now) (g.S.Sink.faults c.exec_loaded.new.out) (g.S.Sink.clean c.exec_loaded.new.out)
    (SaysLine g.E.Sink.took (g.E.Sink.faults c.args.err.now) (g.E.Sink.faults c.exec_loaded.new.err) c.args.err.now c.exec_loaded.new.err) c.exec_loaded.result
    (g.met.S.Sink.took_nothing c.args.out.now) c.exec_loaded.ensures

pub returns-in-Err-clause-performs : goal.returns-in-Err-clause-performs
returns-in-Err-clause-performs g c =
    performs_refusal (executing c.args.image.now c.args.flows.now c.args.settings) (g.F.Files.contents c.args.files.now) (g.F.Files.at c.args.files.now) (g.F.Files.at c.load.new.files)
    (g.F.Files.misses c.args.files.now) (g.F.Files.misses c.load.new.files) (g.F.Files.faults c.args.files.now) (g.F.Files.faults c.load.new.files)
    (one_exec_outcome c.args.image.now c.args.flows.now c.args.settings) g.S.Sink.took c.args.out.now (g.S.Sink.faults c.args.out.now) (g.S.Sink.faults c.args.out.now) (g.S.Sink.clean c.args.out.now)
    (SaysLine g.E.Sink.took (g.E.Sink.faults c.args.err.now) (g.E.Sink.faults c.refuse.new.err) c.args.err.now c.refuse.new.err) c.refuse.result c.in-Err.refusal
    (g.met.S.Sink.took_nothing c.args.out.now) (exec_number c.args.image.now c.args.flows.now) c.in-Err.ensures.stops c.refuse.ensures.said c.refuse.ensures.status

pub returns-in-Ok-clause-last : goal.returns-in-Ok-clause-last
returns-in-Ok-clause-last g c =
    told_never (g.F.Files.contents c.args.files.now) c.exec_loaded.result (λ held. g.F.Files.at c.load.new.files ≡ name_where_there held c.args.image.now) (no_run_budget c.exec_loaded.ensures)

pub returns-in-Err-clause-last : goal.returns-in-Err-clause-last
returns-in-Err-clause-last g c =
    told_by (g.F.Files.contents c.args.files.now) c.in-Err.refusal c.refuse.result (λ held. g.F.Files.at c.load.new.files ≡ name_where_there held c.args.image.now)
    c.refuse.ensures.status c.in-Err.ensures.budget
