use Rattle.sig_judge.proofs.{sym, subst, rules, to_z-of_z, w64, FitsSigned, Combines, Constant, DecidesSeen, operand_of, seen_of, Found}
use Rattle.sig_tree.specs.Operators.{Signal}
use Rattle.sig_judge.proofs.operator.combine.Goals as goal

pub returns-in-Constant-y : goal.returns-in-Constant-y
returns-in-Constant-y c =
    let f : FitsSigned w64 c.in-Constant-y.d = search rules in
    subst (λ (x : Found). DecidesSeen (Combines c.args.op (operand_of x) (operand_of c.args.y)) c.apply_before.result) (sym c.in-Signal.is)
    (subst (λ (y : Found). DecidesSeen (Combines c.args.op (Signal (seen_of c.in-Signal.x)) (operand_of y)) c.apply_before.result) (sym c.in-Constant-y.is) (rw (to_z-of_z w64 c.in-Constant-y.d f) at c.apply_before.ensures))

pub returns-in-Signal-y-2 : goal.returns-in-Signal-y-2
returns-in-Signal-y-2 c =
    let f : FitsSigned w64 c.in-Constant.c = search rules in
    subst (λ (x : Found). DecidesSeen (Combines c.args.op (operand_of x) (operand_of c.args.y)) c.combine_constant.result) (sym c.in-Constant.is)
    (subst (λ (y : Found). DecidesSeen (Combines c.args.op (Constant c.in-Constant.c) (operand_of y)) c.combine_constant.result) (sym c.in-Signal-y-2.is) (rw (to_z-of_z w64 c.in-Constant.c f) at c.combine_constant.ensures))
