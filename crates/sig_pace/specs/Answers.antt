-- The refusals of a system as refusals of pacing.
use Rattle.std.specs.Prelude.{◌≡◌}
use Rattle.sig_pace.specs.Prelude.{RelAnswer, Budget as SystemBudget, OutOfMemory as NoMemory}
use Rattle.sig_pace.specs.declared.answer.PaceAnswer.{PaceAnswer}
use Rattle.sig_pace.specs.declared.answer.PaceAnswer.TheVariants.{Budget, OutOfMemory}

abbrev pub IsFromSystem : RelAnswer → PaceAnswer → Type 0
IsFromSystem (SystemBudget nodes) answer = answer ≡ Budget nodes
IsFromSystem NoMemory answer = answer ≡ OutOfMemory
