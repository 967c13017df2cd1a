use Rattle.std.proofs.Common.{◌≡◌, ◌≤◌, length, take}
use Rattle.sig_link.specs.Ends.{put_link, sent}
use Rattle.sig_tests_run.proofs.tests.link.put_all.Given as goal

abbrev pub invariant-loop : goal.invariant-loop
invariant-loop g l = (put_link l.put ≡ put_link l.fn.put) × (sent l.put ≡ take l.next l.items) × (l.next ≤ length l.items)
