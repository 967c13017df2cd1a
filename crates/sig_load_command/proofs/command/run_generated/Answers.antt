use Rattle.sig_load_command.proofs.{◌<◌, ◌^◌, ℕ, inl, refl, subst, sym, IsWholeRun, INSTANTS_DEFAULT, Tallied, Tally, IsAccepted, SaysLine, IsOfKernel, end_line, Loaded, end_there, wrote_part, wrote_whole}
use Rattle.sig_load_command.proofs.command.run_generated.Goals as goal

pub say_end-requires : goal.say_end-requires
say_end-requires g c =
    let accepted : IsAccepted c.args.loaded.now.plan = subst (λ (l : Loaded). IsAccepted l.plan) c.loaded.view_is c.loaded.invariant in
    let run = c.in-Ok.ensures.whole in
    subst (λ (l : Loaded). IsOfKernel l.plan.kernel c.in-Ok.end.cause) (sym c.loaded.view_is)
    (end_there c.args.loaded.now.plan accepted _ INSTANTS_DEFAULT run.trace run.place c.in-Ok.end run.end)

pub returns-in-Ok-put_summary : goal.returns-in-Ok-put_summary
returns-in-Ok-put_summary g c =
    let accepted : IsAccepted c.args.loaded.now.plan = subst (λ (l : Loaded). IsAccepted l.plan) c.loaded.view_is c.loaded.invariant in
    let few : c.run_plan.new.sink.bytes < 2 ^ 64 = subst (λ (n : ℕ). n < 2 ^ 64) c.bytes.ensures c.bytes.type_inv in
    let small : c.run_plan.new.sink.sum < 2 ^ 64 = subst (λ (n : ℕ). n < 2 ^ 64) c.sum.ensures c.sum.type_inv in
    let whole = subst (λ (l : Loaded). IsWholeRun c.args.loaded.now.plan l.inputs INSTANTS_DEFAULT Tallied c.new-tally.result c.run_plan.new.sink c.in-Ok.end) c.loaded.view_is c.in-Ok.ensures.whole in
    let run = subst (λ (t : Tally). IsWholeRun c.args.loaded.now.plan c.args.loaded.now.inputs INSTANTS_DEFAULT Tallied t c.run_plan.new.sink c.in-Ok.end) c.new-tally.ensures whole in
    let said = subst (λ (l : Loaded). SaysLine g.E.Sink.took (g.E.Sink.faults c.args.err.now) (g.E.Sink.faults c.say_end.new.err) c.args.err.now c.say_end.new.err (end_line l.plan.kernel c.in-Ok.end)) c.loaded.view_is c.say_end.ensures in
    inl (wrote_whole c.args.stages c.args.loaded.now.plan accepted c.args.loaded.now.inputs g.S.Sink.took c.args.out.now c.put_summary.new.out
    (g.S.Sink.faults c.args.out.now) (g.S.Sink.faults c.put_summary.new.out) (g.S.Sink.clean c.put_summary.new.out)
    (SaysLine g.E.Sink.took (g.E.Sink.faults c.args.err.now) (g.E.Sink.faults c.say_end.new.err) c.args.err.now c.say_end.new.err) c.end_status.result
    c.run_plan.new.sink few small c.in-Ok.end run
    (rw (c.bytes.ensures, c.sum.ensures) at c.in-Ok-put_summary.ensures.whole) (rw (c.bytes.ensures, c.sum.ensures) at c.put_summary.ensures.prefix)
    c.in-Ok-put_summary.ensures.clean said c.end_status.ensures)

pub returns-in-Err : goal.returns-in-Err
returns-in-Err g c =
    let accepted : IsAccepted c.args.loaded.now.plan = subst (λ (l : Loaded). IsAccepted l.plan) c.loaded.view_is c.loaded.invariant in
    let few : c.run_plan.new.sink.bytes < 2 ^ 64 = subst (λ (n : ℕ). n < 2 ^ 64) c.bytes.ensures c.bytes.type_inv in
    let small : c.run_plan.new.sink.sum < 2 ^ 64 = subst (λ (n : ℕ). n < 2 ^ 64) c.sum.ensures c.sum.type_inv in
    let whole = subst (λ (l : Loaded). IsWholeRun c.args.loaded.now.plan l.inputs INSTANTS_DEFAULT Tallied c.new-tally.result c.run_plan.new.sink c.in-Ok.end) c.loaded.view_is c.in-Ok.ensures.whole in
    let run = subst (λ (t : Tally). IsWholeRun c.args.loaded.now.plan c.args.loaded.now.inputs INSTANTS_DEFAULT Tallied t c.run_plan.new.sink c.in-Ok.end) c.new-tally.ensures whole in
    inl (wrote_part c.args.stages c.args.loaded.now.plan accepted c.args.loaded.now.inputs g.S.Sink.took c.args.out.now c.put_summary.new.out
    (g.S.Sink.faults c.args.out.now) (g.S.Sink.faults c.put_summary.new.out) (g.S.Sink.clean c.put_summary.new.out)
    (SaysLine g.E.Sink.took (g.E.Sink.faults c.args.err.now) (g.E.Sink.faults c.say_fault.new.err) c.args.err.now c.say_fault.new.err) 6
    c.run_plan.new.sink few small c.in-Ok.end run
    (rw (c.bytes.ensures, c.sum.ensures) at c.in-Err.ensures.prefix) c.in-Err.ensures.failed c.say_fault.ensures refl)
