use Rattle.std.proofs.Common.{rules}
use Rattle.sig_machine.proofs.{◌+◌, ℤ, pos, arith, cell, set, subst, sym, w64, to_z-of_z, AreKeptUpTo, all_kept, none_kept, one_kept}
use Rattle.sig_machine.proofs.actor.keep_cells.Goals as goal

pub loop-number-init : goal.loop-number-init
loop-number-init c = none_kept c.args.from c.args.to c.args.cells.now c.args.last.now

pub loop-number-preserved : goal.loop-number-preserved
loop-number-preserved c =
    let before = c.loop-number-test.true in
    let cells = c.loop-number.auto.cells in
    let last = c.loop-number.auto.last in
    let within = c.requires.cells in
    let within_last = c.requires.last in
    subst (λ (v : ℤ). AreKeptUpTo c.args.from c.args.to (c.loop-number.number + 1) c.args.cells.now c.args.last.now (set c.loop-number.cells c.loop-number.number (pos 0)) (set c.loop-number.last c.loop-number.number v))
    (sym (to_z-of_z w64 (cell c.loop-number.cells c.loop-number.number) (search rules)))
    (one_kept c.args.from c.args.to c.loop-number.number c.args.cells.now c.args.last.now c.loop-number.cells c.loop-number.last
    before (omega (arith, before, cells, within)) (omega (arith, before, last, within_last)) c.loop-number.invariant)

pub returns : goal.returns
returns c = all_kept c.args.from c.args.to c.loop-number.number c.args.cells.now c.args.last.now c.loop-number.cells c.loop-number.last c.loop-number-test.false c.loop-number.invariant
