use Rattle.std.proofs.Common.{add-one}
use Rattle.sig_c_write.proofs.functions.put_next_check.Goals as goal

pub returns : goal.returns
returns c = rw add-one at c.put_check.ensures
