use Rattle.sig_judge.proofs.{◌≡◌, ◌⊎◌, length, arith, sym, subst, common_steps, err_from_is_err_and, lines, IsFirst, numbered, TraceAnswer, OutOfMemory, row_judge, wrong_line, all_good}
use Rattle.sig_judge.proofs.row.rows_of.Goals as goal

pub returns-in_err-read-clause-fault : goal.returns-in_err-read-clause-fault
returns-in_err-read-clause-fault c =
    let p = err_from_is_err_and c.from_residual.result c.from_residual.ensures.1 in
    let why = wrong_line c.args.header.now.kinds.items c.loop-rest.rest.now c.next_line.result.0.now c.next_line.result.1.now c.loop-rest.line_number c.next_line.ensures.lines c.loop-rest.before (numbered c.args.number (lines c.args.bytes.now)) c.in_err-read.field-0.0 c.in_err-read.ensures.fault c.loop-rest.invariant.judged in
    rw p.1 (subst (λ (e : TraceAnswer). (e ≡ OutOfMemory) ⊎ IsFirst (row_judge c.args.header.now.kinds.items) 0 (numbered c.args.number (lines c.args.bytes.now)) e) (sym p.2) why)

pub returns-clause-good : goal.returns-clause-good
returns-clause-good c =
    let none : length c.loop-rest.rest.now ≡ 0 = grind (arith, common_steps) in
    all_good c.args.header.now.kinds.items c.loop-rest.rest.now c.loop-rest.line_number c.loop-rest.before (numbered c.args.number (lines c.args.bytes.now)) none c.loop-rest.invariant.judged
