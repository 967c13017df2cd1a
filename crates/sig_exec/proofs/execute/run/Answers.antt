use Rattle.sig_exec.proofs.{◌∙◌, arith, refl, subst, err_from_is_err_and, guards_of, EndsIn, State, cleared, cells_in, HandlesEach, state_of, run_begins, run_ends, run_fails, run_more, run_stops, flows_length, has_cells, memories_length}
use Rattle.sig_exec.proofs.execute.run.Goals as goal

pub loop-done-init : goal.loop-done-init
loop-done-init g c = record {
  machine = c.requires.machine;
  instant = c.requires.instant;
  run = run_begins c.args.image.now c.args.inputs.now g.S.Sink.took c.args.sink.now (g.met.S.Sink.took_nothing c.args.sink.now) (state_of c.args.image.now c.args.inputs.now c.args.machine.now) c.requires.opening;
  outputs = c.requires.outputs;
  faults = omega arith;
}

pub react-requires-clause-machine : goal.react-requires-clause-machine
react-requires-clause-machine g c = c.begin.ensures.machine c.args.image.now c.args.lowered.now c.args.inputs.now c.loop-done.invariant.machine

pub put-requires-clause-cells : goal.put-requires-clause-cells
put-requires-clause-cells g c =
    has_cells c.args.image.now c.args.lowered.now c.requires.lowers c.args.inputs.now c.react.new.self.instant (cells_in c.react.new.self) c.in_default.ensures.machine

pub returns-in-Err-clause-whole : goal.returns-in-Err-clause-whole
returns-in-Err-clause-whole g c =
    let image = c.args.image.now in
    let flows = c.args.inputs.now in
    let s = state_of image flows c.loop-done.machine in
    let same = c.begin.ensures.cleared image c.args.lowered.now flows c.requires.lowers c.loop-done.invariant.machine in
    run_fails image flows g.S.Sink.took c.args.sink.now c.loop-done.sink c.loop-done.done s c.loop-done.invariant.run c.args.limit c.loop-done-test.true c.in-Err.cause
    (subst (λ (t : State). EndsIn (guards_of image) (guards_of image).ops t c.in-Err.cause) same c.in-Err.ensures.fault) _ refl refl

pub returns-in_err-put-clause-prefix : goal.returns-in_err-put-clause-prefix
returns-in_err-put-clause-prefix g c =
    let p = err_from_is_err_and c.from_residual.result c.from_residual.ensures.1 in
    let image = c.args.image.now in
    let flows = c.args.inputs.now in
    let lowered = c.args.lowered.now in
    let s = state_of image flows c.loop-done.machine in
    let t = state_of image flows c.react.new.self in
    let same = c.begin.ensures.cleared image lowered flows c.requires.lowers c.loop-done.invariant.machine in
    let handles : HandlesEach image (cleared (guards_of image) s) t = subst (λ (u : State). HandlesEach image u t) same c.in_default.ensures.done in
    rw p.1 (run_stops image flows g.S.Sink.took c.args.sink.now c.loop-done.sink c.loop-done.done s c.loop-done.invariant.run c.images_are_right.ensures c.requires.sound g.met.S.Sink.took_both c.put.new.sink t
    handles
    (record {
      memories = memories_length image lowered c.requires.lowers flows c.react.new.self.instant (cells_in c.react.new.self) c.in_default.ensures.machine;
      flows = flows_length image lowered c.requires.lowers flows c.react.new.self.instant (cells_in c.react.new.self) c.in_default.ensures.machine ∙ c.requires.inputs;
    })
    c.args.limit c.loop-done-test.true c.in_err-put.ensures.prefix)

pub loop-done-preserved : goal.loop-done-preserved
loop-done-preserved g c =
    let image = c.args.image.now in
    let flows = c.args.inputs.now in
    let lowered = c.args.lowered.now in
    let s = state_of image flows c.loop-done.machine in
    let t = state_of image flows c.react.new.self in
    let same = c.begin.ensures.cleared image lowered flows c.requires.lowers c.loop-done.invariant.machine in
    let handles : HandlesEach image (cleared (guards_of image) s) t = subst (λ (u : State). HandlesEach image u t) same c.in_default.ensures.done in
    record {
      machine = c.in_default.ensures.machine;
      instant = c.in_default.ensures.instant ∙ c.begin.ensures.instant;
      run = run_more image flows g.S.Sink.took c.args.sink.now c.loop-done.sink c.loop-done.done s c.loop-done.invariant.run g.met.S.Sink.took_both c.put.new.sink t handles c.in_ok-put.ensures.all;
      outputs = c.in_ok-put.ensures.outputs;
      faults = omega (arith, c.loop-done.invariant.faults, c.in_ok-put.ensures.faults_stay);
    }

pub returns-clause-whole : goal.returns-clause-whole
returns-clause-whole g c =
    run_ends c.args.image.now c.args.inputs.now g.S.Sink.took c.args.sink.now c.loop-done.sink c.loop-done.done (state_of c.args.image.now c.args.inputs.now c.loop-done.machine)
    c.loop-done.invariant.run c.args.limit (omega (arith, c.loop-done-test.false, c.loop-done.auto.done-end)) _ refl refl
