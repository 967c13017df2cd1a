use Rattle.sig_program.proofs.{false, refl, err_from_is_err_and, HasKernel, refused_own}
use Rattle.sig_program.proofs.compile.kernel_of.Goals as goal

pub returns-in_err-own-clause-refused : goal.returns-in_err-own-clause-refused
returns-in_err-own-clause-refused c =
    let p = err_from_is_err_and c.from_residual.result c.from_residual.ensures.1 in
    rw (p.1, p.2) (refused_own c.args.pace c.args.bytes.now c.in_err-own.field-0.0 c.in_err-own.ensures.refused)

pub returns-then-pace-clause-kernel : goal.returns-then-pace-clause-kernel
returns-then-pace-clause-kernel c = rw c.if-pace.true c.paced.ensures.kernel

pub returns-then-pace-clause-refused : goal.returns-then-pace-clause-refused
returns-then-pace-clause-refused c = rw c.if-pace.true c.paced.ensures.refused

pub returns-else-pace-clause-kernel : goal.returns-else-pace-clause-kernel
returns-else-pace-clause-kernel c =
    let has : HasKernel false c.args.bytes.now c.in_ok-own.own =
    record { own = c.in_ok-own.own; has = c.in_ok-own.ensures.own; becomes = refl; valid = c.in_ok-own.ensures.own.valid } in
    rw c.if-pace.false has
