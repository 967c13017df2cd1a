-- The refusals of a store as refusals of a relation.
use Rattle.std.specs.Prelude.{◌≡◌}
use Rattle.sig_rel.specs.Prelude.{DdAnswer, Budget as StoreBudget, OutOfMemory as NoMemory}
use Rattle.sig_rel.specs.declared.answer.RelAnswer.{RelAnswer}
use Rattle.sig_rel.specs.declared.answer.RelAnswer.TheVariants.{Budget, OutOfMemory}

abbrev pub IsFromStore : DdAnswer → RelAnswer → Type 0
IsFromStore (StoreBudget nodes) answer = answer ≡ Budget nodes
IsFromStore NoMemory answer = answer ≡ OutOfMemory
