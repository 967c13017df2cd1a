use Rattle.sig_kernel.proofs.{no_instants, prefix_trace}
use Rattle.sig_kernel.proofs.laws.beginnings_are_traces.Goals as goal

pub returns-clause-none : goal.returns-clause-none
returns-clause-none c = no_instants

pub returns-clause-front : goal.returns-clause-front
returns-clause-front c = prefix_trace
