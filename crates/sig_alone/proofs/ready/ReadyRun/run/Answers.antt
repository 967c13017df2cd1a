use Rattle.sig_alone.proofs.{arith, length, refl, subst, sym, Lowered, Lowers, err_from_is_err_and, run_begins, run_ends, run_fails, run_more, run_stops}
use Rattle.sig_alone.proofs.ready.ReadyRun.run.Goals as goal

pub loop-done-init : goal.loop-done-init
loop-done-init g c = record {
  lowers = c.requires.ready.lowers;
  machine = c.requires.ready.machine;
  run = run_begins c.args.plan.now c.plans_are_accepted.ensures c.args.inputs.now c.requires.fits c.args.written g.S.Sink.took c.args.sink.now (g.met.S.Sink.took_nothing c.args.sink.now)
      c.args.self.now.machine c.requires.ready.opening;
  room = c.requires.ready.lines;
  faults = omega arith;
}

pub returns-in-Err-clause-whole : goal.returns-in-Err-clause-whole
returns-in-Err-clause-whole g c =
    run_fails c.args.plan.now c.plans_are_accepted.ensures c.args.inputs.now c.requires.fits c.args.written g.S.Sink.took c.args.sink.now c.loop-done.sink c.loop-done.done c.loop-done.self.machine
    c.loop-done.invariant.run c.args.limit c.loop-done-test.true c.in-Err.cause c.in-Err.ensures.fault _ refl refl

pub returns-in_err-commit-clause-prefix : goal.returns-in_err-commit-clause-prefix
returns-in_err-commit-clause-prefix g c =
    let p = err_from_is_err_and c.from_residual.result c.from_residual.ensures.1 in
    rw p.1 (run_stops c.args.plan.now c.plans_are_accepted.ensures c.args.inputs.now c.requires.fits c.args.written g.S.Sink.took g.met.S.Sink.took_both c.args.sink.now c.loop-done.sink c.commit.new.sink c.loop-done.done
    c.loop-done.self.machine c.react.new.self c.loop-done.invariant.run c.in_default.ensures.done c.args.limit c.loop-done-test.true c.in_err-commit.ensures.prefix)

pub loop-done-preserved : goal.loop-done-preserved
loop-done-preserved g c = record {
  lowers = subst (λ (l : Lowered). Lowers c.args.plan.now l) (sym c.in_ok-commit.ensures.lowered) c.loop-done.invariant.lowers;
  machine = c.in_ok-commit.ensures.machine;
  run = run_more c.args.plan.now c.plans_are_accepted.ensures c.args.inputs.now c.requires.fits c.args.written g.S.Sink.took g.met.S.Sink.took_both c.args.sink.now c.loop-done.sink c.commit.new.sink c.loop-done.done
      c.loop-done.self.machine c.react.new.self c.loop-done.invariant.run c.in_default.ensures.done c.in_ok-commit.ensures.all c.commit.new.self.machine (c.in_ok-commit.ensures.next (length c.args.plan.now.order));
  room = let room = c.loop-done.invariant.room in let size = c.in_ok-commit.ensures.size in omega (arith, room, size);
  faults = omega (arith, c.loop-done.invariant.faults, c.in_ok-commit.ensures.faults_stay);
}

pub returns-clause-whole : goal.returns-clause-whole
returns-clause-whole g c =
    run_ends c.args.plan.now c.plans_are_accepted.ensures c.args.inputs.now c.requires.fits c.args.written g.S.Sink.took c.args.sink.now c.loop-done.sink c.loop-done.done c.loop-done.self.machine
    c.loop-done.invariant.run c.args.limit (omega (arith, c.loop-done-test.false, c.loop-done.auto.done-end)) _ refl refl
