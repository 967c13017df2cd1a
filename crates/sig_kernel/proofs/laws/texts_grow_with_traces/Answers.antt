use Rattle.sig_kernel.proofs.{text_prefix}
use Rattle.sig_kernel.proofs.laws.texts_grow_with_traces.Goals as goal

pub returns : goal.returns
returns c = text_prefix
