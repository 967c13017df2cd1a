use Rattle.std.proofs.Common.{◌≡◌, ◌≤◌, length, take}
use Rattle.sig_link.specs.Ends.{take_link, taken}
use Rattle.sig_tests_run.proofs.tests.link.take_all.Given as goal

abbrev pub invariant-loop : goal.invariant-loop
invariant-loop g l = (take_link l.take ≡ take_link l.fn.take) × (taken l.take ≡ take l.next l.copy.items) × (l.next ≤ length l.copy.items)
