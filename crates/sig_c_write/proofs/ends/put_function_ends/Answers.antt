use Rattle.std.proofs.Common.{append-nil}
use Rattle.sig_c_write.proofs.ends.put_function_ends.Goals as goal

pub returns-in-Mod : goal.returns-in-Mod
returns-in-Mod c = rw c.in-Mod.is (rw append-nil c.put_end-in-Mod.ensures)
