use Rattle.sig_pace.proofs.{has_traces}
use Rattle.sig_pace.proofs.laws.paced_kernels_have_the_old_traces.Goals as goal

pub returns : goal.returns
returns c = has_traces
