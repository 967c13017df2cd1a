use Rattle.sig_c.proofs.Examples.{example_is}
use Rattle.sig_c.proofs.laws.an_example_is_read.Goals as goal

pub returns : goal.returns
returns c = example_is
