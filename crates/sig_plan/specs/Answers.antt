-- The refusals of a store as refusals of operations.
use Rattle.std.specs.Prelude.{◌≡◌}
use Rattle.sig_plan.specs.Prelude.{DdAnswer, Budget as StoreBudget, OutOfMemory as NoMemory}
use Rattle.sig_plan.specs.declared.answer.PlanAnswer.{PlanAnswer}
use Rattle.sig_plan.specs.declared.answer.PlanAnswer.TheVariants.{Budget, OutOfMemory}

abbrev pub IsFromStore : DdAnswer → PlanAnswer → Type 0
IsFromStore (StoreBudget nodes) answer = answer ≡ Budget nodes
IsFromStore NoMemory answer = answer ≡ OutOfMemory
