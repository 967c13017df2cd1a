use Rattle.sig_judge.proofs.{Some, sym, subst, to_z-of_z, w64, BinOp, Combines, DecidesValue}
use Rattle.sig_tree.specs.Operators.{Signal}
use Rattle.sig_judge.proofs.function.function_of_two.Goals as goal

pub returns-in-Mod : goal.returns-in-Mod
returns-in-Mod c =
    subst (λ (op : BinOp). DecidesValue (Combines op (Signal (Some c.args.x)) (Signal (Some c.args.y))) c.remainder.result) (sym c.in-Mod.is)
    (rw (to_z-of_z w64 c.args.x c.ranges.x, to_z-of_z w64 c.args.y c.ranges.y) at c.remainder.ensures)
