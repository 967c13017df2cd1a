use Rattle.sig_deciding_laws.proofs.{length, IsKernelTrace, one_longest, longest_cut, some_longest, reference_begins, reacts_once}
use Rattle.sig_deciding_laws.proofs.laws_of_kernels.accepted_kernels_have_one_longest_trace.Goals as goal

pub returns-clause-some : goal.returns-clause-some
returns-clause-some c = λ kernel valid accepted flows fit. some_longest (record { valid = valid; fit = fit; one = reacts_once kernel valid accepted })

pub returns-clause-one : goal.returns-clause-one
returns-clause-one c = λ kernel flows limit a b. one_longest (IsKernelTrace kernel) flows limit a b

pub returns-clause-cut : goal.returns-clause-cut
returns-clause-cut c = λ kernel valid accepted flows fit. longest_cut (record { valid = valid; fit = fit; one = reacts_once kernel valid accepted })

pub returns-clause-begins : goal.returns-clause-begins
returns-clause-begins c = λ kernel valid accepted flows fit limit count trace reference longest le is.
    reference_begins (record { valid = valid; fit = fit; one = reacts_once kernel valid accepted }) (length trace) count trace reference le
    (longest_cut (record { valid = valid; fit = fit; one = reacts_once kernel valid accepted }) limit trace longest).reference is
