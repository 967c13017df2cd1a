-- Functions of truths, with their operands.
use Rattle.std.specs.Prelude.{◌&&◌, ◌||◌, if◌then◌else◌}
use Rattle.sig_rel.specs.Prelude.{Bool, not, List, map, Option, None, Some, Signal, FunOp, Operand, compares, same_truth, truth_function}
use Rattle.sig_rel.specs.declared.functions.TruthFunction.{TruthFunction}
use Rattle.sig_rel.specs.declared.functions.TruthFunction.TheVariants.{Same, Not, And, Or, Equal, Differ}

-- the truth that a function gives where its operands have these truths; one that is no function of truths leaves it open
abbrev pub truth_given : List Signal → FunOp → List Operand → (Operand → Bool) → Option Bool
truth_given signals op operands truth = if compares signals op operands then None else truth_function op (map truth operands)

abbrev pub truth_by : (Operand → Bool) → TruthFunction → Bool
truth_by truth (Same a) = truth a
truth_by truth (Not a) = not (truth a)
truth_by truth (And a b) = truth a && truth b
truth_by truth (Or a b) = truth a || truth b
truth_by truth (Equal a b) = same_truth (truth a) (truth b)
truth_by truth (Differ a b) = not (same_truth (truth a) (truth b))

abbrev pub truth_of_some : (Operand → Bool) → Option TruthFunction → Option Bool
truth_of_some truth None = None
truth_of_some truth (Some function) = Some (truth_by truth function)
