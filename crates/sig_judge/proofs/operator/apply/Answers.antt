use Rattle.sig_judge.proofs.{rules, to_z-of_z, w64, FitsSigned, both_given}
use Rattle.sig_judge.proofs.operator.apply.Goals as goal

pub returns-in-Value-Value : goal.returns-in-Value-Value
returns-in-Value-Value c =
    let fx : FitsSigned w64 c.in-Value-Value.x = search rules in
    let fy : FitsSigned w64 c.in-Value-Value.y = search rules in
    both_given c.args.op c.requires c.args.x c.args.y c.in-Value-Value.x c.in-Value-Value.y c.in-Value-Value.is-0 c.in-Value-Value.is-1 c.function_of_two.result
    (rw (to_z-of_z w64 c.in-Value-Value.x fx, to_z-of_z w64 c.in-Value-Value.y fy) at c.function_of_two.ensures) c.present.result c.present.ensures
