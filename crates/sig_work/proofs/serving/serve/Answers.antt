use Rattle.sig_work.proofs.{TookPrefix, same_shares, all_past_zero, all_seats, stopped_ended, stopped_same, were_served, were_stopped, run_of}
use Rattle.sig_work.proofs.serving.serve.Goals as goal

pub stop_all-requires-clause-word : goal.stop_all-requires-clause-word
stop_all-requires-clause-word g c =
    let run = c.requires.run in
    let goes = c.in-Err.ensures.part run.0 run.1 run.2 run.3 in
    all_seats (run_of c.args.plan.now c.args.inputs.now run.0 run.1) c.args.halt.now _ c.serve_on.new.shares goes.serving

pub stop_all-requires-clause-past : goal.stop_all-requires-clause-past
stop_all-requires-clause-past g c =
    let run = c.requires.run in
    let goes = c.in-Err.ensures.part run.0 run.1 run.2 run.3 in
    all_past_zero (run_of c.args.plan.now c.args.inputs.now run.0 run.1) c.args.halt.now _ c.serve_on.new.shares goes.serving

pub returns-in-Ok-clause-same : goal.returns-in-Ok-clause-same
returns-in-Ok-clause-same g c = same_shares c.args.shares.now c.serve_on.new.shares c.serve_on.ensures.keeps

pub returns-in-Ok-clause-served : goal.returns-in-Ok-clause-served
returns-in-Ok-clause-served g c = λ capacity limit committed is.
    were_served (run_of c.args.plan.now c.args.inputs.now capacity limit) g.S.Sink.took c.args.halt.now c.args.shares.now c.serve_on.new.shares c.args.sink.now c.serve_on.new.sink committed
    (c.in-Ok.ensures.serves capacity limit committed is) c.serve_on.ensures.keeps

pub returns-in-Err-clause-same : goal.returns-in-Err-clause-same
returns-in-Err-clause-same g c = stopped_same c.args.shares.now c.serve_on.new.shares c.stop_all.new.shares c.serve_on.ensures.keeps c.stop_all.ensures

pub returns-in-Err-clause-ended : goal.returns-in-Err-clause-ended
returns-in-Err-clause-ended g c = stopped_ended c.serve_on.new.shares c.stop_all.new.shares c.stop_all.ensures

pub returns-in-Err-clause-stopped : goal.returns-in-Err-clause-stopped
returns-in-Err-clause-stopped g c = λ capacity limit committed is.
    were_stopped (run_of c.args.plan.now c.args.inputs.now capacity limit) (TookPrefix g.S.Sink.took) c.args.halt.now c.serve_on.new.shares c.stop_all.new.shares c.args.sink.now c.serve_on.new.sink committed
    (c.in-Err.ensures.part capacity limit committed is) c.stop_all.ensures
