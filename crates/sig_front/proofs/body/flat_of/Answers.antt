use Rattle.sig_front.proofs.{◌≡◌, ◌⊎◌, sym, subst, err_from_is_err_and, program_of, IsNoFlatText, FrontAnswer, OutOfMemory}
use Rattle.sig_front.proofs.body.flat_of.Goals as goal

pub returns-in_err-typed-clause-fault : goal.returns-in_err-typed-clause-fault
returns-in_err-typed-clause-fault c =
    let p = err_from_is_err_and c.from_residual-in_err-typed.result c.from_residual-in_err-typed.ensures.1 in
    let why = c.in_err-typed.ensures.refused c.args.bytes.now c.in_ok-program.ensures.tree in
    rw p.1 (subst (λ (e : FrontAnswer). (e ≡ OutOfMemory) ⊎ IsNoFlatText c.args.bytes.now e) (sym p.2) why)

pub inline-requires : goal.inline-requires
inline-requires c =
    rw c.in_ok-typed.ensures.same (c.trees_of_texts.ensures.tree c.args.bytes.now (program_of c.in_ok-program.program) c.in_ok-program.ensures.tree)
