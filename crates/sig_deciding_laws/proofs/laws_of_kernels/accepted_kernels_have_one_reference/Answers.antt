use Rattle.sig_deciding_laws.proofs.{one_reference, reference_begins, some_reference, reacts_once}
use Rattle.sig_deciding_laws.proofs.laws_of_kernels.accepted_kernels_have_one_reference.Goals as goal

pub returns-clause-some : goal.returns-clause-some
returns-clause-some c = λ kernel valid accepted flows fit. some_reference (record { valid = valid; fit = fit; one = reacts_once kernel valid accepted })

pub returns-clause-one : goal.returns-clause-one
returns-clause-one c = λ kernel valid accepted flows fit. one_reference (record { valid = valid; fit = fit; one = reacts_once kernel valid accepted })

pub returns-clause-begins : goal.returns-clause-begins
returns-clause-begins c = λ kernel valid accepted flows fit. reference_begins (record { valid = valid; fit = fit; one = reacts_once kernel valid accepted })
