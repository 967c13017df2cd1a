use Rattle.std.proofs.Common.{◌+◌, ◌*◌}
use Rattle.sig_c_write.proofs.guards.+guard.Given as goal

abbrev pub decreases-put_child : goal.decreases-put_child
decreases-put_child l = 2 * l.child + 1

abbrev pub decreases-put_guard : goal.decreases-put_guard
decreases-put_guard l = 2 * l.guard
