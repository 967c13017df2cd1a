use Rattle.sig_kernel.proofs.{flow_values, flows_fit}
use Rattle.sig_kernel.proofs.laws.flows_hold_values.Goals as goal

pub returns-clause-values : goal.returns-clause-values
returns-clause-values c = flow_values

pub returns-clause-fit : goal.returns-clause-fit
returns-clause-fit c = flows_fit
