use Rattle.sig_meaning_laws.proofs.{longest_cut, some_longest, length, reference_begins}
use Rattle.sig_meaning_laws.proofs.laws.longest_traces_exist.Goals as goal

pub returns-clause-some : goal.returns-clause-some
returns-clause-some c = λ kernel valid one flows fit. some_longest (record { valid = valid; fit = fit; one = one })

pub returns-clause-cut : goal.returns-clause-cut
returns-clause-cut c = λ kernel valid one flows fit. longest_cut (record { valid = valid; fit = fit; one = one })

pub returns-clause-begins : goal.returns-clause-begins
returns-clause-begins c = λ kernel valid one flows fit limit count trace reference longest le is.
    reference_begins (record { valid = valid; fit = fit; one = one }) (length trace) count trace reference le (longest_cut (record { valid = valid; fit = fit; one = one }) limit trace longest).reference is
