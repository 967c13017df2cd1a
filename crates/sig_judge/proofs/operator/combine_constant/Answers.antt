use Rattle.sig_judge.proofs.{sym, ◌∙◌, rules, to_z-of_z, w64, FitsSigned, before_given}
use Rattle.sig_judge.proofs.operator.combine_constant.Goals as goal

pub returns-in-Value : goal.returns-in-Value
returns-in-Value c =
    let f : FitsSigned w64 c.in-Value.y = search rules in
    before_given c.args.op (sym c.is_function.ensures ∙ c.if-not-is_function.false) c.args.y c.args.c c.in-Value.y c.in-Value.is c.function_of_two.result
    (rw (to_z-of_z w64 c.args.c c.ranges.c, to_z-of_z w64 c.in-Value.y f) at c.function_of_two.ensures) c.present.result c.present.ensures
