use Rattle.sig_exec.proofs.{◌≡◌, arith, sym, subst, Cells, ImageCause, EndsIn, guards_of, state_of, cells_in, cells_of, fault_ends, instant_done, instant_stays, refilled, KeepsCells, instructions_in}
use Rattle.sig_exec.proofs.machine.ImageMachine.react.Goals as goal

pub op_at-requires : goal.op_at-requires
op_at-requires c =
    let within = c.in-Err.ensures.place in
    let all = c.requires.lowers.instructions.count in
    omega (arith, within, all)

pub returns-in-Ok-clause-done : goal.returns-in-Ok-clause-done
returns-in-Ok-clause-done c =
    let m = c.args.self.now in
    let given : Cells = cells_of c.as_mut_slice.result.now c.as_mut_slice-2.result.now c.as_mut_slice-3.result.now in
    let same : given ≡ cells_in m = λ j. cells_of (c.as_mut_slice.ensures.value j) (c.as_mut_slice-2.ensures.value j) (c.as_mut_slice-3.ensures.value j) in
    let t = cells_of c.react.new.cells c.react.new.stamps c.react.new.taken in
    let keeps = subst (λ (u : Cells). KeepsCells (instructions_in c.args.lowered.now.code) m.instant u t) same c.in-Ok.ensures.keeps in
    instant_done c.args.image.now c.images_are_right.ensures c.requires.sound c.args.lowered.now c.requires.lowers c.args.inputs.now c.requires.inputs m.instant (cells_in m) c.requires.machine given same t _
    (refilled m.cells.len m.stamps.len m.taken.len (cells_in m) t m.cells.ok.0 m.stamps.ok.0 m.taken.ok.0 keeps.values keeps.stamps keeps.taken) c.in-Ok.ensures.done

pub returns-in-Ok-clause-machine : goal.returns-in-Ok-clause-machine
returns-in-Ok-clause-machine c =
    let m = c.args.self.now in
    let given : Cells = cells_of c.as_mut_slice.result.now c.as_mut_slice-2.result.now c.as_mut_slice-3.result.now in
    let same : given ≡ cells_in m = λ j. cells_of (c.as_mut_slice.ensures.value j) (c.as_mut_slice-2.ensures.value j) (c.as_mut_slice-3.ensures.value j) in
    let t = cells_of c.react.new.cells c.react.new.stamps c.react.new.taken in
    let keeps = subst (λ (u : Cells). KeepsCells (instructions_in c.args.lowered.now.code) m.instant u t) same c.in-Ok.ensures.keeps in
    instant_stays c.args.image.now c.images_are_right.ensures c.requires.sound c.args.lowered.now c.requires.lowers c.args.inputs.now c.requires.inputs m.instant (cells_in m) c.requires.machine given same t _
    (refilled m.cells.len m.stamps.len m.taken.len (cells_in m) t m.cells.ok.0 m.stamps.ok.0 m.taken.ok.0 keeps.values keeps.stamps keeps.taken) c.in-Ok.ensures.keeps

pub returns-in-Err-clause-fault : goal.returns-in-Err-clause-fault
returns-in-Err-clause-fault c =
    let m = c.args.self.now in
    let given : Cells = cells_of c.as_mut_slice.result.now c.as_mut_slice-2.result.now c.as_mut_slice-3.result.now in
    let same : given ≡ cells_in m = λ j. cells_of (c.as_mut_slice.ensures.value j) (c.as_mut_slice-2.ensures.value j) (c.as_mut_slice-3.ensures.value j) in
    subst (λ (cause : ImageCause). EndsIn (guards_of c.args.image.now) (guards_of c.args.image.now).ops (state_of c.args.image.now c.args.inputs.now m) cause) (sym c.cause_of.ensures)
    (fault_ends c.args.image.now c.images_are_right.ensures c.requires.sound c.args.lowered.now c.requires.lowers c.args.inputs.now c.requires.inputs m.instant (cells_in m) c.requires.machine given same (cells_of c.react.new.cells c.react.new.stamps c.react.new.taken) c.in-Err.fault c.in-Err.ensures.fault
    c.op_at.result.now c.op_at.ensures.is)

pub returns-in-Err-clause-machine : goal.returns-in-Err-clause-machine
returns-in-Err-clause-machine c =
    let m = c.args.self.now in
    let given : Cells = cells_of c.as_mut_slice.result.now c.as_mut_slice-2.result.now c.as_mut_slice-3.result.now in
    let same : given ≡ cells_in m = λ j. cells_of (c.as_mut_slice.ensures.value j) (c.as_mut_slice-2.ensures.value j) (c.as_mut_slice-3.ensures.value j) in
    let t = cells_of c.react.new.cells c.react.new.stamps c.react.new.taken in
    let keeps = subst (λ (u : Cells). KeepsCells (instructions_in c.args.lowered.now.code) m.instant u t) same c.in-Err.ensures.keeps in
    instant_stays c.args.image.now c.images_are_right.ensures c.requires.sound c.args.lowered.now c.requires.lowers c.args.inputs.now c.requires.inputs m.instant (cells_in m) c.requires.machine given same t _
    (refilled m.cells.len m.stamps.len m.taken.len (cells_in m) t m.cells.ok.0 m.stamps.ok.0 m.taken.ok.0 keeps.values keeps.stamps keeps.taken) c.in-Err.ensures.keeps
