use Rattle.sig_base.proofs.TraceLemmas.{fits_reduced, flow_reduced}
use Rattle.sig_base.proofs.traces.flows_of_reduced_traces.Goals as goal

-- src/traces.rt:16:1
pub returns-clause-flow : goal.returns-clause-flow
returns-clause-flow c = flow_reduced

-- src/traces.rt:16:1
pub returns-clause-fits : goal.returns-clause-fits
returns-clause-fits c = fits_reduced
