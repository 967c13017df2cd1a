use Rattle.sig_judge.proofs.{◌≡◌, ◌⊎◌, sym, subst, err_from_is_err_and, TraceAnswer, OutOfMemory, body_behind, IsFirstBadPlace, IsTraceFile, a_trace, a_bad_header, a_bad_row, kinds_of_file}
use Rattle.sig_judge.proofs.read.trace_of.Goals as goal

pub returns-in_err-header-clause-fault : goal.returns-in_err-header-clause-fault
returns-in_err-header-clause-fault c =
    let p = err_from_is_err_and c.from_residual.result c.from_residual.ensures.1 in
    let why = a_bad_header c.args.signals.now c.args.bytes.now (body_behind c.in-Some.start) c.in-Some.ensures.some c.in_err-header.field-0.0 c.in_err-header.ensures.fault in
    rw p.1 (subst (λ (e : TraceAnswer). (e ≡ OutOfMemory) ⊎ IsFirstBadPlace c.args.signals.now c.args.bytes.now e) (sym p.2) why)

pub returns-in_err-rows-clause-fault : goal.returns-in_err-rows-clause-fault
returns-in_err-rows-clause-fault c =
    let p = err_from_is_err_and c.from_residual-in_err-rows.result c.from_residual-in_err-rows.ensures.1 in
    let why = a_bad_row c.args.signals.now c.args.bytes.now (body_behind c.in-Some.start) c.in-Some.ensures.some c.in_ok-header.header c.in_err-rows.field-0.0 c.in_ok-header.ensures.good c.in_ok-header.ensures.header c.in_err-rows.ensures.fault in
    rw p.1 (subst (λ (e : TraceAnswer). (e ≡ OutOfMemory) ⊎ IsFirstBadPlace c.args.signals.now c.args.bytes.now e) (sym p.2) why)

pub returns-clause-trace : goal.returns-clause-trace
returns-clause-trace c =
    a_trace c.args.signals.now c.args.bytes.now (body_behind c.in-Some.start) c.in-Some.ensures.some c.in_ok-header.header c.in_ok-rows.rows.items c.in_ok-header.ensures.good c.in_ok-header.ensures.header c.in_ok-rows.ensures.good c.in_ok-rows.ensures.rows

pub returns-clause-kinds : goal.returns-clause-kinds
returns-clause-kinds c =
    let file : IsTraceFile c.args.signals.now c.args.bytes.now c.in_ok-rows.rows.items = a_trace c.args.signals.now c.args.bytes.now (body_behind c.in-Some.start) c.in-Some.ensures.some c.in_ok-header.header c.in_ok-rows.rows.items c.in_ok-header.ensures.good c.in_ok-header.ensures.header c.in_ok-rows.ensures.good c.in_ok-rows.ensures.rows in
    kinds_of_file c.args.signals.now c.args.bytes.now c.in_ok-rows.rows.items c.requires.differ file
