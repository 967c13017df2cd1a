use Rattle.sig_c.proofs.TypesHold.{first_fit, next_fit}
use Rattle.sig_c.proofs.laws.types_hold_values.Goals as goal

pub returns-clause-first : goal.returns-clause-first
returns-clause-first c = first_fit

pub returns-clause-next : goal.returns-clause-next
returns-clause-next c = next_fit
