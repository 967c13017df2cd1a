use Rattle.sig_play_command.proofs.{◌∙◌, ◌+◌, arith, err_from_is_err_and, join_part, first_part, next_happened, TookPrefix}
use Rattle.sig_play_command.proofs.events.play_events.Goals as goal

pub returns-in_err-event-clause-part : goal.returns-in_err-event-clause-part
returns-in_err-event-clause-part g c =
    let p = err_from_is_err_and c.from_residual.result c.from_residual.ensures.1 in
    rw p.1 (first_part g.S.Sink.took c.args.core.now c.event.new.self c.args.out.now c.event.new.sink c.args.events.now (c.loop-event.event-index + 1)
    (next_happened g.S.Sink.took (TookPrefix g.S.Sink.took) (join_part g.S.Sink.took g.met.S.Sink.took_both) c.args.core.now c.loop-event.core c.event.new.self c.args.out.now c.loop-event.out c.event.new.sink
    c.loop-event.invariant.run c.args.events.now c.loop-event.event-index _ c.loop-event-test.true c.event_of.result c.event_of.ensures c.loop-event.invariant.happened c.in_err-event.ensures.part))

pub loop-event-preserved : goal.loop-event-preserved
loop-event-preserved g c = record {
  core = c.in_ok-event.ensures.core;
  run = c.in_ok-event.ensures.run ∙ c.loop-event.invariant.run;
  happened = next_happened g.S.Sink.took g.S.Sink.took g.met.S.Sink.took_both c.args.core.now c.loop-event.core c.event.new.self c.args.out.now c.loop-event.out c.event.new.sink
      c.loop-event.invariant.run c.args.events.now c.loop-event.event-index _ c.loop-event-test.true c.event_of.result c.event_of.ensures c.loop-event.invariant.happened c.in_ok-event.ensures.happened;
  faults = omega (arith, c.loop-event.invariant.faults, c.in_ok-event.ensures.faults_stay);
}
