use Rattle.sig_flow.proofs.{read_fit}
use Rattle.sig_flow.proofs.laws.flows_that_are_read_fit.Goals as goal

pub returns : goal.returns
returns c = read_fit
