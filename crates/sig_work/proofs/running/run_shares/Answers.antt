use Rattle.sig_work.proofs.{◌≡◌, ◌≤◌, ◌++◌, List, length, take, drop, ap, refl, subst, sym, arith, written_back, again_kept, again_requires, again_served, again_stopped, always_ok, err_of, HaveEnded, Share, on_err_weaker}
use Rattle.sig_work.proofs.running.run_shares.Goals as goal

pub serve-again-requires : goal.serve-again-requires
serve-again-requires g c =
    let mid = c.run_threads-shares.result.0.items in
    record {
      run = again_requires c.args.plan.now c.args.inputs.now c.args.word.now g.S.Sink.took g.met.S.Sink.took_both c.args.sink.now c.run_threads-shares.new.sink c.run_threads-shares.new.sink
          c.args.others.items c.args.mine.items mid c.deref_mut.result.now mid mid c.run_threads-shares.result.1 c.in-Ok.field-0 c.in-Ok.is c.run_threads-shares.ensures.kept c.deref_mut.ensures.value refl c.run_threads-shares.ensures.served c.requires.run;
    }

pub returns-in-Ok : goal.returns-in-Ok
returns-in-Ok g c =
    let mid = c.run_threads-shares.result.0.items in
    let new = c.serve-again.new.shares in
    let final : List Share = take c.run_threads-shares.result.0.len (new ++ drop (length new) mid) in
    let back : final ≡ new = written_back new (drop (length new) mid) c.run_threads-shares.result.0.len
    (let a = c.serve-again.ensures.same.count in let b = ap (λ (xs : List Share). length xs) c.deref_mut.ensures.value in let d = c.run_threads-shares.result.0.ok.0 in omega (arith, a, b, d)) in
    let first : g.S.Sink.faults c.args.sink.now ≤ g.S.Sink.faults c.run_threads-shares.new.sink = c.run_threads-shares.ensures.faults_stay in
    let second : g.S.Sink.faults c.run_threads-shares.new.sink ≤ g.S.Sink.faults c.serve-again.new.sink = c.serve-again.ensures.faults_stay in
    record {
      kept = again_kept c.args.plan.now c.args.inputs.now c.args.word.now g.S.Sink.took g.met.S.Sink.took_both c.args.sink.now c.run_threads-shares.new.sink c.serve-again.new.sink
          c.args.others.items c.args.mine.items mid c.deref_mut.result.now new final c.run_threads-shares.result.1 c.in-Ok.field-0 c.in-Ok.is c.run_threads-shares.ensures.kept c.deref_mut.ensures.value back c.run_threads-shares.ensures.served c.serve-again.ensures.same;
      ended = always_ok c.serve-again.result (HaveEnded final) (subst (λ (xs : List Share). HaveEnded xs) (sym back) c.serve-again.ensures.ended);
      served = again_served c.args.plan.now c.args.inputs.now c.args.word.now g.S.Sink.took g.met.S.Sink.took_both c.args.sink.now c.run_threads-shares.new.sink c.serve-again.new.sink
          c.args.others.items c.args.mine.items mid c.deref_mut.result.now new final c.run_threads-shares.result.1 c.in-Ok.field-0 c.in-Ok.is c.run_threads-shares.ensures.kept c.deref_mut.ensures.value back c.run_threads-shares.ensures.served c.serve-again.result c.serve-again.ensures.served;
      stopped = again_stopped c.args.plan.now c.args.inputs.now c.args.word.now g.S.Sink.took g.met.S.Sink.took_both c.args.sink.now c.run_threads-shares.new.sink c.serve-again.new.sink
          c.args.others.items c.args.mine.items mid c.deref_mut.result.now new final c.run_threads-shares.result.1 c.in-Ok.field-0 c.in-Ok.is c.run_threads-shares.ensures.kept c.deref_mut.ensures.value back c.run_threads-shares.ensures.served c.serve-again.result c.serve-again.ensures.stopped;
      failed = on_err_weaker c.serve-again.result (λ rose. omega (arith, first, rose)) c.serve-again.ensures.failed;
      faults_stay = omega (arith, first, second);
    }

pub returns-in-Err-clause-stopped : goal.returns-in-Err-clause-stopped
returns-in-Err-clause-stopped g c = λ capacity limit committed begun.
    err_of c.run_threads-shares.result.1 c.in-Err.field-0 _ c.in-Err.is (c.run_threads-shares.ensures.stopped capacity limit committed begun)

pub returns-in-Err-clause-failed : goal.returns-in-Err-clause-failed
returns-in-Err-clause-failed g c = err_of c.run_threads-shares.result.1 c.in-Err.field-0 _ c.in-Err.is c.run_threads-shares.ensures.failed
