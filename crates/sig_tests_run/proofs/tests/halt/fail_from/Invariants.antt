use Rattle.std.proofs.Common.{◌≡◌}
use Rattle.sig_halt.specs.Seats.{parts, IsSeatOf}
use Rattle.sig_tests_run.proofs.tests.halt.fail_from.Given as goal

abbrev pub invariant-loop-instant : goal.invariant-loop-instant
invariant-loop-instant l = IsSeatOf l.halt l.seat × (parts l.seat ≡ parts l.fn.seat)
