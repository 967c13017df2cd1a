use Rattle.std.proofs.Common.{◌≡◌, ℕ, Some, length, refl, sym, subst, slice_get, arith}
use Rattle.sig_values.proofs.Common.{slice_get_read}
use Rattle.sig_cells.specs.Instants.{Keeps}
use Rattle.sig_cells.specs.Rows.{GoesTo, Stops, listed}
use Rattle.sig_cells.specs.Instructions.{Cells, cells_of}
use Rattle.sig_cells.proofs.DoneInARow.{AreDoneTo, done_further, done_one_on, reads_there, stamp_there, stops_here, target_there}
use Rattle.sig_cells.proofs.row.do_long.Goals.{After-do_row-place, After-index-instruction}
use Rattle.sig_cells.proofs.row.do_long.Goals as goal

-- up to where a row of opcodes stops
done_there : (c : After-do_row-place) → AreDoneTo c.args.all.now c.args.inputs.now c.args.instant c.args.from c.do_row-place.result (cells_of c.args.cells.now c.args.stamps.now c.args.taken.now) (cells_of c.do_row-place.new.cells c.do_row-place.new.stamps c.loop-place.taken)
done_there c = done_further c.args.all.now c.args.inputs.now c.args.instant c.args.from (cells_of c.args.cells.now c.args.stamps.now c.args.taken.now) c.loop-place.place c.do_row-place.result (cells_of c.loop-place.cells c.loop-place.stamps c.loop-place.taken) (cells_of c.do_row-place.new.cells c.do_row-place.new.stamps c.loop-place.taken)
    c.loop-place.invariant.done c.do_row-place.ensures.goes c.do_row-place.ensures.keeps

-- the instruction of that place
there : (c : After-index-instruction) → slice_get (listed c.args.all.now) c.do_row-place.result ≡ Some c.index-instruction.result.now
there c =
    let end = c.requires.within in
    let before = c.if-place-to.false in
    slice_get_read c.args.all.now.listed.items (length c.args.all.now.listed.items) c.do_row-place.result c.index-instruction.result.now refl (omega (arith, before, end)) c.index-instruction.ensures

pub returns-then-place-to-clause-goes : goal.returns-then-place-to-clause-goes
returns-then-place-to-clause-goes c =
    let done = done_there (goal.at.returns-then-place-to-clause-goes c).After-do_row-place in
    let past = c.if-place-to.true in
    let within = c.do_row-place.ensures.within in
    let all : c.do_row-place.result ≡ c.args.to = omega (arith, past, within) in
    subst (λ (n : ℕ). GoesTo (listed c.args.all.now) c.args.inputs.now c.args.instant c.args.from n (cells_of c.args.cells.now c.args.stamps.now c.args.taken.now) (cells_of c.do_row-place.new.cells c.do_row-place.new.stamps c.loop-place.taken)) all done.goes

pub do_one-requires : goal.do_one-requires
do_one-requires c =
    let done = done_there (goal.at.do_one-requires c).After-do_row-place in
    let at = there (goal.at.do_one-requires c).After-index-instruction in
    record {
      reads = reads_there c.args.all.now c.args.inputs.now c.args.instant c.args.from (cells_of c.args.cells.now c.args.stamps.now c.args.taken.now) c.do_row-place.result (cells_of c.do_row-place.new.cells c.do_row-place.new.stamps c.loop-place.taken) done c.index-instruction.result.now at;
      cells = target_there c.args.all.now c.args.inputs.now c.args.instant c.args.from (cells_of c.args.cells.now c.args.stamps.now c.args.taken.now) c.do_row-place.result (cells_of c.do_row-place.new.cells c.do_row-place.new.stamps c.loop-place.taken) done c.index-instruction.result.now at;
      stamps = stamp_there c.args.all.now c.args.inputs.now c.args.instant c.args.from (cells_of c.args.cells.now c.args.stamps.now c.args.taken.now) c.do_row-place.result (cells_of c.do_row-place.new.cells c.do_row-place.new.stamps c.loop-place.taken) done c.index-instruction.result.now at;
    }

pub returns-then-not-do_one-clause-goes : goal.returns-then-not-do_one-clause-goes
returns-then-not-do_one-clause-goes c =
    let done = done_there (goal.at.returns-then-not-do_one-clause-goes c).After-do_row-place in
    subst (λ (s : Cells). GoesTo (listed c.args.all.now) c.args.inputs.now c.args.instant c.args.from c.do_row-place.result (cells_of c.args.cells.now c.args.stamps.now c.args.taken.now) s) (sym (c.do_one.ensures.same c.if-not-do_one.true)) done.goes

pub returns-then-not-do_one-clause-keeps : goal.returns-then-not-do_one-clause-keeps
returns-then-not-do_one-clause-keeps c =
    let done = done_there (goal.at.returns-then-not-do_one-clause-keeps c).After-do_row-place in
    subst (λ (s : Cells). Keeps (listed c.args.all.now) c.args.instant (cells_of c.args.cells.now c.args.stamps.now c.args.taken.now) s) (sym (c.do_one.ensures.same c.if-not-do_one.true)) done.keeps

pub returns-then-not-do_one-clause-stops : goal.returns-then-not-do_one-clause-stops
returns-then-not-do_one-clause-stops c = λ earlier.
    let done = done_there (goal.at.returns-then-not-do_one-clause-stops c).After-do_row-place in
    let at = there (goal.at.returns-then-not-do_one-clause-stops c).After-index-instruction in
    subst (λ (s : Cells). Stops (listed c.args.all.now) c.args.inputs.now c.do_row-place.result s) (sym (c.do_one.ensures.same c.if-not-do_one.true))
    (stops_here c.args.all.now c.args.inputs.now c.args.instant c.args.from (cells_of c.args.cells.now c.args.stamps.now c.args.taken.now) c.do_row-place.result (cells_of c.do_row-place.new.cells c.do_row-place.new.stamps c.loop-place.taken) done c.index-instruction.result.now at (c.do_one.ensures.fault c.if-not-do_one.true))

pub loop-place-preserved : goal.loop-place-preserved
loop-place-preserved c =
    let done = done_there (goal.at.loop-place-preserved c).After-do_row-place in
    let at = there (goal.at.loop-place-preserved c).After-index-instruction in
    let before = c.if-place-to.false in
    let later = c.loop-place.invariant.later in
    let on = c.do_row-place.ensures.later in
    record {
      later = omega (arith, later, on);
      before = omega (arith, before);
      done = done_one_on c.args.all.now c.args.inputs.now c.args.instant c.args.from (cells_of c.args.cells.now c.args.stamps.now c.args.taken.now) c.do_row-place.result (cells_of c.do_row-place.new.cells c.do_row-place.new.stamps c.loop-place.taken) done c.index-instruction.result.now at (cells_of c.do_one.new.cells c.do_one.new.stamps c.do_one.new.taken) (c.do_one.ensures.done c.if-not-do_one.false);
    }
