use Rattle.sig_load_command.proofs.{refl, SaysLine, performs_refusal, loading, performs_load, one_load_outcome, load_number}
use Rattle.sig_load_command.proofs.command.load_command.Goals as goal

pub returns-in-Ok : goal.returns-in-Ok
returns-in-Ok g c = λ contents at misses faults.
    performs_load c.args.seed c.args.stages c.args.settings contents at misses faults c.in-Ok.loaded.plan.kernel c.in-Ok.loaded.inputs
    c.in-Ok.ensures.program c.in-Ok.ensures.few c.in-Ok.ensures.flows
    g.S.Sink.took c.args.out.now c.run_generated.new.out (g.S.Sink.faults c.args.out.now) (g.S.Sink.faults c.run_generated.new.out) (g.S.Sink.clean c.run_generated.new.out)
    (SaysLine g.E.Sink.took (g.E.Sink.faults c.args.err.now) (g.E.Sink.faults c.run_generated.new.err) c.args.err.now c.run_generated.new.err) c.run_generated.result
    (g.met.S.Sink.took_nothing c.args.out.now) c.run_generated.ensures

pub returns-in-Err : goal.returns-in-Err
returns-in-Err g c = λ contents at misses faults.
    performs_refusal (loading c.args.seed c.args.stages c.args.settings) contents at at misses misses faults faults
    (λ held. one_load_outcome c.args.seed c.args.stages c.args.settings) g.S.Sink.took c.args.out.now (g.S.Sink.faults c.args.out.now) (g.S.Sink.faults c.args.out.now) (g.S.Sink.clean c.args.out.now)
    (SaysLine g.E.Sink.took (g.E.Sink.faults c.args.err.now) (g.E.Sink.faults c.refuse.new.err) c.args.err.now c.refuse.new.err) c.refuse.result c.in-Err.refusal
    (g.met.S.Sink.took_nothing c.args.out.now) load_number (c.in-Err.ensures.stops c.args.settings contents at misses faults refl) c.refuse.ensures.said c.refuse.ensures.status
