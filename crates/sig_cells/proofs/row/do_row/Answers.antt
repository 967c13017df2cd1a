use Rattle.std.proofs.Common.{◌-◌, ◌∙◌, ℤ, ℕ, length, sym, subst, arith, rules, w64, to_z, of_z, set, slice_index_or, IsSomeAnd}
use Rattle.sig_values.proofs.Common.{to_z-of_z}
use Rattle.std.proofs.lemmas.List.{get_or-set_same}
use Rattle.std.proofs.Common.{pos}
use Rattle.sig_cells.specs.Instructions.{cell, cells_of}
use Rattle.sig_cells.specs.Opcodes.{work_of}
use Rattle.sig_cells.specs.Rows.{listed}
use Rattle.sig_cells.specs.inner.Quick.{ComesTo}
use Rattle.sig_cells.proofs.DoneInARow.{AreDoneTo, blank, coded_reads, coded_stamp, coded_target, left_first, left_next, left_within, none_done_yet, value_done}
use Rattle.sig_cells.proofs.row.do_row.Goals as goal

pub loop-left-init : goal.loop-left-init
loop-left-init c =
    let place = left_first c.args.from c.args.to c.requires.before in
    record {
      left = omega arith;
      done = subst (λ (n : ℕ). AreDoneTo c.args.all.now c.args._inputs.now c.args.instant c.args.from n (cells_of c.args.cells.now c.args.stamps.now c.args._taken.now) (cells_of c.args.cells.now c.args.stamps.now c.args._taken.now)) place
          (none_done_yet c.args.all.now c.args._inputs.now c.args.instant c.args.from (cells_of c.args.cells.now c.args.stamps.now c.args._taken.now) c.requires.code c.requires.stamps);
      newest = sym c.first_value.ensures ∙ sym (to_z-of_z w64 c.first_value.result (search rules));
    }

pub value_of-a-requires-clause-within : goal.value_of-a-requires-clause-within
value_of-a-requires-clause-within c =
    let place = c.args.to - c.loop-left.left in
    let within = left_within c.args.from c.args.to c.loop-left.left (length (listed c.args.all.now)) c.loop-left.invariant.left c.requires.before c.requires.within c.loop-left-test.true in
    (coded_reads c.args.all.now c.args._inputs.now c.args.instant c.args.from (cells_of c.args.cells.now c.args.stamps.now c.args._taken.now) place c.loop-left.cells c.loop-left.stamps c.args._taken.now c.loop-left.invariant.done c.as_slice-coded.result.now c.as_slice-coded.ensures.value within).0

pub slice_copy_out-b : goal.slice_copy_out-b
slice_copy_out-b c =
    let place = c.args.to - c.loop-left.left in
    let within = left_within c.args.from c.args.to c.loop-left.left (length (listed c.args.all.now)) c.loop-left.invariant.left c.requires.before c.requires.within c.loop-left-test.true in
    (coded_reads c.args.all.now c.args._inputs.now c.args.instant c.args.from (cells_of c.args.cells.now c.args.stamps.now c.args._taken.now) place c.loop-left.cells c.loop-left.stamps c.args._taken.now c.loop-left.invariant.done c.as_slice-coded.result.now c.as_slice-coded.ensures.value within).1

pub bounds-cells-one : goal.bounds-cells-one
bounds-cells-one c =
    let place = c.args.to - c.loop-left.left in
    let within = left_within c.args.from c.args.to c.loop-left.left (length (listed c.args.all.now)) c.loop-left.invariant.left c.requires.before c.requires.within c.loop-left-test.true in
    coded_target c.args.all.now c.args._inputs.now c.args.instant c.args.from (cells_of c.args.cells.now c.args.stamps.now c.args._taken.now) place c.loop-left.cells c.loop-left.stamps c.args._taken.now c.loop-left.invariant.done c.as_slice-coded.result.now c.as_slice-coded.ensures.value within

pub bounds-stamps-one : goal.bounds-stamps-one
bounds-stamps-one c =
    let place = c.args.to - c.loop-left.left in
    let within = left_within c.args.from c.args.to c.loop-left.left (length (listed c.args.all.now)) c.loop-left.invariant.left c.requires.before c.requires.within c.loop-left-test.true in
    coded_stamp c.args.all.now c.args._inputs.now c.args.instant c.args.from (cells_of c.args.cells.now c.args.stamps.now c.args._taken.now) place c.loop-left.cells c.loop-left.stamps c.args._taken.now c.loop-left.invariant.done c.as_slice-coded.result.now c.as_slice-coded.ensures.value within

pub loop-left-preserved : goal.loop-left-preserved
loop-left-preserved c =
    let place = c.args.to - c.loop-left.left in
    let within = left_within c.args.from c.args.to c.loop-left.left (length (listed c.args.all.now)) c.loop-left.invariant.left c.requires.before c.requires.within c.loop-left-test.true in
    let one = slice_index_or c.as_slice-coded.result.now place blank in
    let v = to_z w64 (of_z w64 c.in-Some.value) in
    let tells : IsSomeAnd (work_of one.opcode one.a one.b) (ComesTo c.loop-left.cells v) =
    subst (λ (z : ℤ). IsSomeAnd (work_of one.opcode one.a one.b) (ComesTo c.loop-left.cells z)) (sym (to_z-of_z w64 c.in-Some.value (search rules)))
    (c.in-Some.ensures c.loop-left.cells one.a one.b (sym c.value_of-a.ensures ∙ sym (to_z-of_z w64 c.value_of-a.result (search rules))) (sym (to_z-of_z w64 (cell c.loop-left.cells one.b) (search rules)))) in
    let on = left_next c.args.from c.args.to c.loop-left.left c.loop-left.invariant.left c.requires.before c.loop-left-test.true in
    record {
      left = (let l = c.loop-left.invariant.left in omega (arith, l));
      done = subst (λ (n : ℕ). AreDoneTo c.args.all.now c.args._inputs.now c.args.instant c.args.from n (cells_of c.args.cells.now c.args.stamps.now c.args._taken.now) (cells_of (set c.loop-left.cells one.target v) (set c.loop-left.stamps one.target c.args.instant) c.args._taken.now)) on
          (value_done c.args.all.now c.args._inputs.now c.args.instant c.args.from (cells_of c.args.cells.now c.args.stamps.now c.args._taken.now) place c.loop-left.cells c.loop-left.stamps c.args._taken.now c.loop-left.invariant.done c.as_slice-coded.result.now c.as_slice-coded.ensures.value within v tells);
      newest = get_or-set_same c.loop-left.cells one.target v (pos 0) (coded_target c.args.all.now c.args._inputs.now c.args.instant c.args.from (cells_of c.args.cells.now c.args.stamps.now c.args._taken.now) place c.loop-left.cells c.loop-left.stamps c.args._taken.now c.loop-left.invariant.done c.as_slice-coded.result.now c.as_slice-coded.ensures.value within);
    }
