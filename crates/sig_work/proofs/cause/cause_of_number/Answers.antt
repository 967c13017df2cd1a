use Rattle.sig_work.proofs.{sym, subst, cause_missing, HasNone}
use Rattle.sig_work.proofs.cause.cause_of_number.Goals as goal

pub returns-in-None : goal.returns-in-None
returns-in-None c = λ core has. (
    let found = c.in-Some.ensures.some in
    cause_missing c.args.plan.now c.args.inputs.now c.args.shares.now core has c.args.o.0 found.0 found.1
    (subst (λ k. HasNone c.args.shares.now k) (sym found.2) c.in-None.ensures.none))
