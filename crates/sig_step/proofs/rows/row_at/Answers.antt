use Rattle.sig_step.proofs.{◌≡◌, ◌+◌, ◌-◌, arith, row_behind}
use Rattle.sig_step.proofs.rows.row_at.Goals as goal

pub returns-then-to-from : goal.returns-then-to-from
returns-then-to-from c =
    let some = c.if-from-gt0.true in
    let more = c.if-to-from.true in
    let next : c.args.from - 1 + 1 ≡ c.args.from = omega (arith, some) in
    row_behind c.args.steps.now (c.args.from - 1) c.args.from c.row_in-to.result (c.requires.rows (c.args.from - 1) c.row_in-to.result c.row_in-to.ensures) next more
