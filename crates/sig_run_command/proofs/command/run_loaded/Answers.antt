use Rattle.sig_run_command.proofs.{Err, ap, inl, refl, subst, sym, IsLongest, Trace, IsKernelTrace, output_text, TookPrefix, IsAccepted, SaysLine, IsOfKernel, Loaded, IsWholeRun, end_line, end_there, wrote_part, wrote_whole}
use Rattle.sig_run_command.proofs.command.run_loaded.Goals as goal

pub say_end-requires : goal.say_end-requires
say_end-requires g c =
    let accepted : IsAccepted c.args.loaded.now.plan = subst (λ (l : Loaded). IsAccepted l.plan) c.loaded.view_is c.loaded.invariant in
    let run = c.in-Ok.ensures.whole in
    subst (λ (l : Loaded). IsOfKernel l.plan.kernel c.in-Ok.end.cause) (sym c.loaded.view_is)
    (end_there c.args.loaded.now.plan accepted _ c.args.settings.instants run.trace run.place c.in-Ok.end run.end)

pub returns-in-Ok : goal.returns-in-Ok
returns-in-Ok g c =
    let accepted : IsAccepted c.args.loaded.now.plan = subst (λ (l : Loaded). IsAccepted l.plan) c.loaded.view_is c.loaded.invariant in
    let whole = subst (λ (l : Loaded). IsWholeRun c.args.loaded.now.plan l.inputs c.args.settings.instants g.S.Sink.took c.args.out.now c.run_out.new.out c.in-Ok.end) c.loaded.view_is c.in-Ok.ensures.whole in
    let said = subst (λ (l : Loaded). SaysLine g.E.Sink.took (g.E.Sink.faults c.args.err.now) (g.E.Sink.faults c.say_end.new.err) c.args.err.now c.say_end.new.err (end_line l.plan.kernel c.in-Ok.end)) c.loaded.view_is c.say_end.ensures in
    inl (wrote_whole c.args.loaded.now.plan accepted c.args.loaded.now.inputs c.args.settings.instants g.S.Sink.took c.args.out.now c.run_out.new.out
    (g.S.Sink.faults c.args.out.now) (g.S.Sink.faults c.run_out.new.out) (g.S.Sink.clean c.run_out.new.out)
    (SaysLine g.E.Sink.took (g.E.Sink.faults c.args.err.now) (g.E.Sink.faults c.say_end.new.err) c.args.err.now c.say_end.new.err) c.end_status.result
    c.in-Ok.end whole c.in-Ok.ensures.clean said c.end_status.ensures)

pub returns-in-Err-WriteFault : goal.returns-in-Err-WriteFault
returns-in-Err-WriteFault g c =
    let accepted : IsAccepted c.args.loaded.now.plan = subst (λ (l : Loaded). IsAccepted l.plan) c.loaded.view_is c.loaded.invariant in
    let is = ap Err c.in-Err-WriteFault.field-0-is in
    let prefix = subst (λ (l : Loaded). (trace : Trace) → IsLongest (IsKernelTrace c.args.loaded.now.plan.kernel) l.inputs c.args.settings.instants trace
    → TookPrefix g.S.Sink.took c.args.out.now (output_text c.args.loaded.now.plan.kernel trace) c.run_out.new.out) c.loaded.view_is (c.in-Err-WriteFault.ensures.prefix is) in
    inl (wrote_part c.args.loaded.now.plan accepted c.args.loaded.now.inputs c.args.settings.instants g.S.Sink.took c.args.out.now c.run_out.new.out
    (g.S.Sink.faults c.args.out.now) (g.S.Sink.faults c.run_out.new.out) (g.S.Sink.clean c.run_out.new.out)
    (SaysLine g.E.Sink.took (g.E.Sink.faults c.args.err.now) (g.E.Sink.faults c.say_fault.new.err) c.args.err.now c.say_fault.new.err) 6
    c.requires.fit prefix (c.in-Err-WriteFault.ensures.failed is) c.say_fault.ensures refl)
