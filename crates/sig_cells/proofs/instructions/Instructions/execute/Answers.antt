use Rattle.std.proofs.Common.{◌+◌, ◌-◌, ℤ, ℕ, length, refl, sym, subst, arith, rules, w64, to_z, of_z, set, slice_index_or, IsSomeAnd}
use Rattle.sig_values.proofs.Common.{slice_get_read, to_z-of_z}
use Rattle.sig_cells.specs.Rows.{Stops, listed}
use Rattle.sig_cells.specs.Instructions.{Cells, cell, cells_of}
use Rattle.sig_cells.specs.Opcodes.{work_of}
use Rattle.sig_cells.specs.inner.Quick.{ComesTo}
use Rattle.sig_cells.proofs.DoneInARow.{AreDoneTo, blank, coded_reads, coded_stamp, coded_target, done_as, done_one_on, left_first, left_next, left_within, none_done_yet, reads_there, stamp_there, stops_here, target_there, value_done}
use Rattle.sig_cells.proofs.instructions.Instructions.execute.Goals.{in-Some, in-None+else-not-do_one}
use Rattle.sig_cells.proofs.instructions.Instructions.execute.Goals as goal

pub loop-left-init : goal.loop-left-init
loop-left-init c =
    let place = left_first c.args.from c.args.to c.requires.forth in
    record {
      left = omega arith;
      done = subst (λ (n : ℕ). AreDoneTo c.args.self.now c.args.inputs.now c.args.instant c.args.from n (cells_of c.args.cells.now c.args.stamps.now c.args.taken.now) (cells_of c.args.cells.now c.args.stamps.now c.args.taken.now)) place
          (none_done_yet c.args.self.now c.args.inputs.now c.args.instant c.args.from (cells_of c.args.cells.now c.args.stamps.now c.args.taken.now) c.requires.code c.requires.stamps);
    }

pub slice_copy_out-value_by : goal.slice_copy_out-value_by
slice_copy_out-value_by c =
    let place = c.args.to - c.loop-left.left in
    let within = left_within c.args.from c.args.to c.loop-left.left (length (listed c.args.self.now)) c.loop-left.invariant.left c.requires.forth c.requires.within c.loop-left-test.true in
    (coded_reads c.args.self.now c.args.inputs.now c.args.instant c.args.from (cells_of c.args.cells.now c.args.stamps.now c.args.taken.now) place c.loop-left.cells c.loop-left.stamps c.loop-left.taken c.loop-left.invariant.done c.as_slice-coded.result.now c.as_slice-coded.ensures.value within).0

pub slice_copy_out-value_by-in-loop-left : goal.slice_copy_out-value_by-in-loop-left
slice_copy_out-value_by-in-loop-left c =
    let place = c.args.to - c.loop-left.left in
    let within = left_within c.args.from c.args.to c.loop-left.left (length (listed c.args.self.now)) c.loop-left.invariant.left c.requires.forth c.requires.within c.loop-left-test.true in
    (coded_reads c.args.self.now c.args.inputs.now c.args.instant c.args.from (cells_of c.args.cells.now c.args.stamps.now c.args.taken.now) place c.loop-left.cells c.loop-left.stamps c.loop-left.taken c.loop-left.invariant.done c.as_slice-coded.result.now c.as_slice-coded.ensures.value within).1

pub bounds-cells-one : goal.bounds-cells-one
bounds-cells-one c =
    let place = c.args.to - c.loop-left.left in
    let within = left_within c.args.from c.args.to c.loop-left.left (length (listed c.args.self.now)) c.loop-left.invariant.left c.requires.forth c.requires.within c.loop-left-test.true in
    coded_target c.args.self.now c.args.inputs.now c.args.instant c.args.from (cells_of c.args.cells.now c.args.stamps.now c.args.taken.now) place c.loop-left.cells c.loop-left.stamps c.loop-left.taken c.loop-left.invariant.done c.as_slice-coded.result.now c.as_slice-coded.ensures.value within

pub bounds-stamps-one : goal.bounds-stamps-one
bounds-stamps-one c =
    let place = c.args.to - c.loop-left.left in
    let within = left_within c.args.from c.args.to c.loop-left.left (length (listed c.args.self.now)) c.loop-left.invariant.left c.requires.forth c.requires.within c.loop-left-test.true in
    coded_stamp c.args.self.now c.args.inputs.now c.args.instant c.args.from (cells_of c.args.cells.now c.args.stamps.now c.args.taken.now) place c.loop-left.cells c.loop-left.stamps c.loop-left.taken c.loop-left.invariant.done c.as_slice-coded.result.now c.as_slice-coded.ensures.value within

pub do_one-requires : goal.do_one-requires
do_one-requires c =
    let place = c.args.to - c.loop-left.left in
    let within = left_within c.args.from c.args.to c.loop-left.left (length (listed c.args.self.now)) c.loop-left.invariant.left c.requires.forth c.requires.within c.loop-left-test.true in
    let at = slice_get_read c.args.self.now.listed.items (length c.args.self.now.listed.items) place c.index-instruction.result.now refl within c.index-instruction.ensures in
    record {
      reads = reads_there c.args.self.now c.args.inputs.now c.args.instant c.args.from (cells_of c.args.cells.now c.args.stamps.now c.args.taken.now) place (cells_of c.loop-left.cells c.loop-left.stamps c.loop-left.taken) c.loop-left.invariant.done c.index-instruction.result.now at;
      cells = target_there c.args.self.now c.args.inputs.now c.args.instant c.args.from (cells_of c.args.cells.now c.args.stamps.now c.args.taken.now) place (cells_of c.loop-left.cells c.loop-left.stamps c.loop-left.taken) c.loop-left.invariant.done c.index-instruction.result.now at;
      stamps = stamp_there c.args.self.now c.args.inputs.now c.args.instant c.args.from (cells_of c.args.cells.now c.args.stamps.now c.args.taken.now) place (cells_of c.loop-left.cells c.loop-left.stamps c.loop-left.taken) c.loop-left.invariant.done c.index-instruction.result.now at;
    }

pub returns-then-not-do_one-clause-stops : goal.returns-then-not-do_one-clause-stops
returns-then-not-do_one-clause-stops c = λ before.
    let place = c.args.to - c.loop-left.left in
    let within = left_within c.args.from c.args.to c.loop-left.left (length (listed c.args.self.now)) c.loop-left.invariant.left c.requires.forth c.requires.within c.loop-left-test.true in
    let at = slice_get_read c.args.self.now.listed.items (length c.args.self.now.listed.items) place c.index-instruction.result.now refl within c.index-instruction.ensures in
    subst (λ (s : Cells). Stops (listed c.args.self.now) c.args.inputs.now place s) (sym (c.do_one.ensures.same c.if-not-do_one.true)) (stops_here c.args.self.now c.args.inputs.now c.args.instant c.args.from (cells_of c.args.cells.now c.args.stamps.now c.args.taken.now) place (cells_of c.loop-left.cells c.loop-left.stamps c.loop-left.taken) c.loop-left.invariant.done c.index-instruction.result.now at (c.do_one.ensures.fault c.if-not-do_one.true))

pub loop-left-preserved : goal.loop-left-preserved
loop-left-preserved c = elim c.match-value_by.branch [
  | in-Some w ↦
      let place = c.args.to - c.loop-left.left in
      let within = left_within c.args.from c.args.to c.loop-left.left (length (listed c.args.self.now)) c.loop-left.invariant.left c.requires.forth c.requires.within c.loop-left-test.true in
      let one = slice_index_or c.as_slice-coded.result.now place blank in
      let v = to_z w64 (of_z w64 w.in-Some.value) in
      let on = left_next c.args.from c.args.to c.loop-left.left c.loop-left.invariant.left c.requires.forth c.loop-left-test.true in
      let tells : IsSomeAnd (work_of one.opcode one.a one.b) (ComesTo c.loop-left.cells v) =
      subst (λ (z : ℤ). IsSomeAnd (work_of one.opcode one.a one.b) (ComesTo c.loop-left.cells z)) (sym (to_z-of_z w64 w.in-Some.value (search rules)))
      (w.in-Some.ensures c.loop-left.cells one.a one.b (sym (to_z-of_z w64 (cell c.loop-left.cells one.a) (search rules))) (sym (to_z-of_z w64 (cell c.loop-left.cells one.b) (search rules)))) in
      record {
        left = (let l = c.loop-left.invariant.left in omega (arith, l));
        done = subst (λ (n : ℕ). AreDoneTo c.args.self.now c.args.inputs.now c.args.instant c.args.from n (cells_of c.args.cells.now c.args.stamps.now c.args.taken.now) (cells_of c.match-value_by.cells c.match-value_by.stamps c.match-value_by.taken)) on
            (done_as c.args.self.now c.args.inputs.now c.args.instant c.args.from (cells_of c.args.cells.now c.args.stamps.now c.args.taken.now) (place + 1)
            (set c.loop-left.cells one.target v) c.match-value_by.cells (set c.loop-left.stamps one.target c.args.instant) c.match-value_by.stamps c.loop-left.taken c.match-value_by.taken
            w.cells-is w.stamps-is w.taken-is (value_done c.args.self.now c.args.inputs.now c.args.instant c.args.from (cells_of c.args.cells.now c.args.stamps.now c.args.taken.now) place c.loop-left.cells c.loop-left.stamps c.loop-left.taken c.loop-left.invariant.done c.as_slice-coded.result.now c.as_slice-coded.ensures.value within v tells));
      }
  | in-None+else-not-do_one w ↦
      let place = c.args.to - c.loop-left.left in
      let within = left_within c.args.from c.args.to c.loop-left.left (length (listed c.args.self.now)) c.loop-left.invariant.left c.requires.forth c.requires.within c.loop-left-test.true in
      let at = slice_get_read c.args.self.now.listed.items (length c.args.self.now.listed.items) place w.index-instruction.result.now refl within w.index-instruction.ensures in
      let on = left_next c.args.from c.args.to c.loop-left.left c.loop-left.invariant.left c.requires.forth c.loop-left-test.true in
      record {
        left = (let l = c.loop-left.invariant.left in omega (arith, l));
        done = subst (λ (n : ℕ). AreDoneTo c.args.self.now c.args.inputs.now c.args.instant c.args.from n (cells_of c.args.cells.now c.args.stamps.now c.args.taken.now) (cells_of c.match-value_by.cells c.match-value_by.stamps c.match-value_by.taken)) on
            (done_as c.args.self.now c.args.inputs.now c.args.instant c.args.from (cells_of c.args.cells.now c.args.stamps.now c.args.taken.now) (place + 1)
            w.do_one.new.cells c.match-value_by.cells w.do_one.new.stamps c.match-value_by.stamps w.do_one.new.taken c.match-value_by.taken
            w.cells-is w.stamps-is w.taken-is
            (done_one_on c.args.self.now c.args.inputs.now c.args.instant c.args.from (cells_of c.args.cells.now c.args.stamps.now c.args.taken.now) place (cells_of c.loop-left.cells c.loop-left.stamps c.loop-left.taken) c.loop-left.invariant.done w.index-instruction.result.now at (cells_of w.do_one.new.cells w.do_one.new.stamps w.do_one.new.taken) (w.do_one.ensures.done w.if-not-do_one.false)));
      }
]
