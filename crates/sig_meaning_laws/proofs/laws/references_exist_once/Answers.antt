use Rattle.sig_meaning_laws.proofs.{one_reference, reference_begins, some_reference}
use Rattle.sig_meaning_laws.proofs.laws.references_exist_once.Goals as goal

pub returns-clause-some : goal.returns-clause-some
returns-clause-some c = λ kernel valid one flows fit. some_reference (record { valid = valid; fit = fit; one = one })

pub returns-clause-one : goal.returns-clause-one
returns-clause-one c = λ kernel valid one flows fit. one_reference (record { valid = valid; fit = fit; one = one })

pub returns-clause-begins : goal.returns-clause-begins
returns-clause-begins c = λ kernel valid one flows fit. reference_begins (record { valid = valid; fit = fit; one = one })
