use Rattle.sig_tree.proofs.{front_is_trace}
use Rattle.sig_tree.proofs.meaning.prefixes_of_traces.Goals as goal

pub returns : goal.returns
returns c = front_is_trace
