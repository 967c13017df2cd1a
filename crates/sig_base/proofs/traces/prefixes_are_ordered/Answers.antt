use Rattle.sig_base.proofs.TraceLemmas.{one_begins_the_other, prefix_fits, prefix_speaks}
use Rattle.sig_base.proofs.traces.prefixes_are_ordered.Goals as goal

-- src/traces.rt:24:1
pub returns-clause-total : goal.returns-clause-total
returns-clause-total c = one_begins_the_other

-- src/traces.rt:24:1
pub returns-clause-fits : goal.returns-clause-fits
returns-clause-fits c = prefix_fits

-- src/traces.rt:24:1
pub returns-clause-speaks : goal.returns-clause-speaks
returns-clause-speaks c = prefix_speaks
