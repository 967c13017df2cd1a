use Rattle.sig_base.proofs.FunctionLemmas.{some_value}
use Rattle.sig_base.proofs.functions.functions_give_values_without_bounds.Goals as goal

-- src/functions.rt:17:1
pub returns-clause-some : goal.returns-clause-some
returns-clause-some c = some_value
