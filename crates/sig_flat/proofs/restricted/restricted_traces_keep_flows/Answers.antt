use Rattle.sig_flat.proofs.{fits_restricted, flow_restricted, text_restricted}
use Rattle.sig_flat.proofs.restricted.restricted_traces_keep_flows.Goals as goal

pub returns-clause-flow : goal.returns-clause-flow
returns-clause-flow c = flow_restricted

pub returns-clause-fits : goal.returns-clause-fits
returns-clause-fits c = fits_restricted

pub returns-clause-text : goal.returns-clause-text
returns-clause-text c = text_restricted
