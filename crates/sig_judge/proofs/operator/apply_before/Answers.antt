use Rattle.sig_judge.proofs.{sym, ◌∙◌, rules, to_z-of_z, w64, FitsSigned, behind_given}
use Rattle.sig_judge.proofs.operator.apply_before.Goals as goal

pub returns-in-Value : goal.returns-in-Value
returns-in-Value c =
    let f : FitsSigned w64 c.in-Value.x = search rules in
    behind_given c.args.op (sym c.is_function.ensures ∙ c.if-not-is_function.false) c.args.x c.in-Value.x c.args.d c.in-Value.is c.function_of_two.result
    (rw (to_z-of_z w64 c.in-Value.x f, to_z-of_z w64 c.args.d c.ranges.d) at c.function_of_two.ensures) c.present.result c.present.ensures
