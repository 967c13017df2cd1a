use Rattle.sig_machine.proofs.{◌≡◌, ap, Op, one_at, Cells, cells_in, cells_of, ends_within, goes_through, lent_cells, machine_behind_code}
use Rattle.sig_machine.proofs.machine.Machine.react.Goals as goal

pub returns-in-Ok-clause-done : goal.returns-in-Ok-clause-done
returns-in-Ok-clause-done c =
    let m = c.args.self.now in
    let lent : Cells = cells_of c.as_mut_slice.result.now c.as_mut_slice-2.result.now c.as_mut_slice-3.result.now in
    let same : lent ≡ cells_in m = lent_cells m c.as_mut_slice.result.now c.as_mut_slice-2.result.now c.as_mut_slice-3.result.now c.as_mut_slice.ensures.value c.as_mut_slice-2.ensures.value c.as_mut_slice-3.ensures.value in
    goes_through c.args.plan.now c.store_of.ensures.accepted c.args.inputs.now c.requires.fits c.args.lowered.now c.requires.lowers m c.requires.machine c.store_of.result.now c.store_of.ensures.store lent same
    (cells_of c.react.new.cells c.react.new.stamps c.react.new.taken) c.in-Ok.ensures.keeps c.in-Ok.ensures.done

pub returns-in-Ok-clause-machine : goal.returns-in-Ok-clause-machine
returns-in-Ok-clause-machine c =
    let m = c.args.self.now in
    let lent : Cells = cells_of c.as_mut_slice.result.now c.as_mut_slice-2.result.now c.as_mut_slice-3.result.now in
    let same : lent ≡ cells_in m = lent_cells m c.as_mut_slice.result.now c.as_mut_slice-2.result.now c.as_mut_slice-3.result.now c.as_mut_slice.ensures.value c.as_mut_slice-2.ensures.value c.as_mut_slice-3.ensures.value in
    machine_behind_code c.args.plan.now c.store_of.ensures.accepted c.args.inputs.now c.requires.fits c.args.lowered.now c.requires.lowers m c.requires.machine c.store_of.result.now c.store_of.ensures.store lent same
    (cells_of c.react.new.cells c.react.new.stamps c.react.new.taken) c.in-Ok.ensures.keeps

pub returns-in-Err-clause-fault : goal.returns-in-Err-clause-fault
returns-in-Err-clause-fault c =
    let m = c.args.self.now in
    let lent : Cells = cells_of c.as_mut_slice.result.now c.as_mut_slice-2.result.now c.as_mut_slice-3.result.now in
    let same : lent ≡ cells_in m = lent_cells m c.as_mut_slice.result.now c.as_mut_slice-2.result.now c.as_mut_slice-3.result.now c.as_mut_slice.ensures.value c.as_mut_slice-2.ensures.value c.as_mut_slice-3.ensures.value in
    ends_within c.args.plan.now c.store_of.ensures.accepted c.args.inputs.now c.requires.fits c.args.lowered.now c.requires.lowers m c.requires.machine c.store_of.result.now c.store_of.ensures.store lent same
    (cells_of c.react.new.cells c.react.new.stamps c.react.new.taken) c.in-Err.ensures.keeps c.in-Err.fault c.in-Err.ensures.fault c.op_at.result.now.eq (λ op stands. ap (λ (o : Op). o.eq) (one_at c.args.plan.now c.in-Err.fault.place c.op_at.result.now op c.op_at.ensures.op stands)) c.named.result c.named.ensures

pub returns-in-Err-clause-machine : goal.returns-in-Err-clause-machine
returns-in-Err-clause-machine c =
    let m = c.args.self.now in
    let lent : Cells = cells_of c.as_mut_slice.result.now c.as_mut_slice-2.result.now c.as_mut_slice-3.result.now in
    let same : lent ≡ cells_in m = lent_cells m c.as_mut_slice.result.now c.as_mut_slice-2.result.now c.as_mut_slice-3.result.now c.as_mut_slice.ensures.value c.as_mut_slice-2.ensures.value c.as_mut_slice-3.ensures.value in
    machine_behind_code c.args.plan.now c.store_of.ensures.accepted c.args.inputs.now c.requires.fits c.args.lowered.now c.requires.lowers m c.requires.machine c.store_of.result.now c.store_of.ensures.store lent same
    (cells_of c.react.new.cells c.react.new.stamps c.react.new.taken) c.in-Err.ensures.keeps
